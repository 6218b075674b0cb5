-- A walk is read back from the visit that it came to.
use Rattle.std.proofs.Common.{◌≡◌, ◌≢◌, ℕ, ◌<◌, ◌≤◌, true, List, [], ◌∷◌, slice_get, Option, Some, IsSome, refl, sym, ap, subst, ◌∙◌, arith, inl, inr}
use Rattle.std.specs.Prelude.{IsFalse}
use Rattle.std.proofs.lemmas.Bool.Decides.{nat_tests}
use Rattle.st_model.specs.Network.{Network}
use Rattle.st_model.specs.Made.{is_between}
use Rattle.lift_back.specs.Detours.{IsDetour}
use Rattle.lift_back.proofs.Walking.{GoesOn, goes_detour, goes_first, goes_last}
use Rattle.special_dist.specs.declared.quest.Quest.{Quest}
use Rattle.special_dist.specs.declared.quest.Visit.{Visit}
use Rattle.special_dist.specs.Answers.{IsReachedFrom}
use Rattle.special_dist.specs.Visits.{AreVisits, IsQuest}
use Rattle.special_dist.proofs.Closing.{limit_is}

-- from the visit at a place, these vertices lead on to the link's other end
pub record LeadsBack (I : Network) (q : Quest) (visits : List Visit) (here : ℕ) (rest : List ℕ) : Type 0 where
  pub visit : Visit
  pub there : slice_get visits here ≡ Some visit
  pub are : AreVisits I q visits
  pub goes : GoesOn I q.a q.b q.limit visit.paid visit.vertex rest

pub back_from : (I : Network) (q : Quest) (visits : List Visit) (place : ℕ) → IsReachedFrom I q visits place → LeadsBack I q visits place []
back_from I q visits place reached = record {
  visit = reached.visit;
  there = reached.there;
  are = reached.are;
  goes = goes_last I q.a q.b q.limit reached.visit.paid reached.visit.vertex reached.goes;
}

-- one visit further back
pub back_more : (I : Network) (q : Quest) (visits : List Visit) (here : ℕ) (s : Visit) (rest : List ℕ) → slice_get visits here ≡ Some s → s.before < here → LeadsBack I q visits here rest → LeadsBack I q visits s.before (s.vertex ∷ rest)
back_more I q visits here s rest at earlier back = elim (back.are here s at).comes [
  | inl first ↦ absurd (let late = first.before in omega arith)
  | inr from ↦ record {
    visit = from.from;
    there = from.there;
    are = back.are;
    goes =
        let same : back.visit ≡ s = (let e : ◌≡◌ {A = Option Visit} (Some back.visit) (Some s) = sym back.there ∙ at in cc) in
        let goes : GoesOn I q.a q.b q.limit s.paid s.vertex rest = subst (λ (t : Visit). GoesOn I q.a q.b q.limit t.paid t.vertex rest) same back.goes in
        goes_first I q.a q.b q.limit from.from.paid from.from.vertex s.vertex rest from.goes (subst (λ (paid : ℕ). GoesOn I q.a q.b q.limit paid s.vertex rest) from.paid goes);
  }
]

-- the link itself is no walk that stands in for it
not_itself : (a b : ℕ) → IsFalse (is_between (a, b) a b) → ⊥
not_itself a b other = let one : is_between (a, b) a b ≡ true = grind (arith, nat_tests) in absurd cc

-- the whole walk
pub back_whole : (I : Network) (q : Quest) (visits : List Visit) (here : ℕ) (s : Visit) (rest : List ℕ) → IsQuest I q → slice_get visits here ≡ Some s → here ≤ s.before → LeadsBack I q visits here rest → IsDetour I q.a q.b rest
back_whole I q visits here s rest quest at late back = elim (back.are here s at).comes [
  | inl first ↦
      let same : back.visit ≡ s = (let e : ◌≡◌ {A = Option Visit} (Some back.visit) (Some s) = sym back.there ∙ at in cc) in
      let goes : GoesOn I q.a q.b q.limit 0 q.a rest = subst (λ (p : ℕ × ℕ). GoesOn I q.a q.b q.limit p.0 p.1 rest) (λ j. ((ap (λ (t : Visit). t.paid) same ∙ first.paid) j, (ap (λ (t : Visit). t.vertex) same ∙ first.vertex) j)) back.goes in
      goes_detour I q.a q.b q.limit rest (limit_is I q quest) (subst (λ (o : Option ℕ). IsSome o) (sym quest.linked) refl) (some rest goes) goes
  | inr from ↦ absurd (let earlier = from.earlier in omega arith)
]
  where
    some : (rest : List ℕ) → GoesOn I q.a q.b q.limit 0 q.a rest → rest ≢ []
    some [] goes e = not_itself q.a q.b goes.other.0
    some (w ∷ rest) goes e = absurd cc

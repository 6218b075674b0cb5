-- A visit is gone on from over one half.
use Rattle.std.proofs.Common.{◌≡◌, ◌≢◌, ℕ, ◌+◌, ◌^◌, ◌<◌, ◌≤◌, Bool, true, false, cond, not, eqb, List, [], ◌∷◌, length, get_or, slice_get, Option, Some, IsSome, unwrap_or, refl, sym, ap, subst, ◌∙◌, arith, inl, inr}
use Rattle.std.specs.Prelude.{IsFalse}
use Rattle.std.proofs.lemmas.List.Elements.{All-nil, All-cons}
use Rattle.std.proofs.lemmas.Bool.Decides.{nat_tests}
use Rattle.std.proofs.lemmas.Option.{slice_get_within, slice_get-get_or}
use Rattle.std.specs.Bool.{OnTrue, OnFalse}
use Rattle.std.specs.Option.{option_eq}
use Rattle.st_model.specs.Made.{is_between}
use Rattle.st_model.specs.Network.{Network, IsVertex, is_required, link}
use Rattle.st_model.specs.Arborescence.{arc_cost}
use Rattle.graph_store.specs.declared.half.Half.{Half}
use Rattle.special_dist.specs.declared.quest.Quest.{Quest}
use Rattle.special_dist.specs.declared.quest.Visit.{Visit}
use Rattle.special_dist.specs.declared.search.Search.{Search}
use Rattle.special_dist.specs.Visits.{GoesTo, IsVisit, paid_after}
use Rattle.special_dist.specs.Searching.{IsFollowed, IsReached, LeadsOn}
use Rattle.special_dist.specs.Steps.{HasGone, Visits}
use Rattle.special_dist.proofs.Adding.{adds_keeps, adds_reached, adds_search, adds_weight}

-- what holds where a test says yes, or no
pub on_true : {P : Type 0} (b : Bool) → b ≡ true → OnTrue b P → P
on_true true is h = h
on_true false is h = absurd cc

pub on_false : {P : Type 0} (b : Bool) → b ≡ false → OnFalse b P → P
on_false true is h = absurd cc
on_false false is h = h

-- the visit that is read at a place stands there
pub visit_there : (visits : List Visit) (place : ℕ) (visit : Visit) → place < length visits → visit ≡ get_or visits place visit → slice_get visits place ≡ Some visit
visit_there visits place visit within is = slice_get-get_or visits place visit within ∙ ap Some (sym is)

-- a test for another number is refused at the same
pub not_other : (o : Option ℕ) (paid : ℕ) → o ≡ Some paid → true ≡ not (option_eq eqb o (Some paid)) → ⊥
not_other o paid is told =
    let same : option_eq eqb o (Some paid) ≡ true = ap (λ p. option_eq eqb p (Some paid)) is ∙ (let one : eqb paid paid ≡ true = grind (arith, nat_tests) in one) in
    absurd (let e : true ≡ not true = told ∙ ap not same in cc)

-- no more is paid after a vertex than before it
after_within : (required : Bool) (paid limit : ℕ) → paid ≤ limit → cond required 0 paid ≤ limit
after_within true paid limit within = omega arith
after_within false paid limit within = within

module _ (I : Network) (q : Quest) (visit : Visit) (half : Half) (linked : link I.links visit.vertex half.to ≡ Some half.cost) (other : IsFalse (is_between (q.a, q.b) visit.vertex half.to)) (within : visit.paid + half.cost ≤ q.limit) where
  cost_is : half.cost ≡ arc_cost I (visit.vertex, half.to)
  cost_is = sym (ap (λ o. unwrap_or o 0) linked)

  pub may_go : GoesTo I q visit half.to
  may_go = record {
    linked = subst (λ (o : Option ℕ). IsSome o) (sym linked) refl;
    other = other;
    within = subst (λ (cost : ℕ). visit.paid + cost ≤ q.limit) cost_is within;
  }

  pub gone_one : (place : ℕ) (next : Visit) (old new : Search) → slice_get old.visits.items place ≡ Some visit → IsVertex I.n half.to → half.to ≢ q.b
      → next ≡ record { vertex = half.to; paid = paid_after I half.to (visit.paid + half.cost); before = place } → next.paid < 2 ^ 64 → Visits old new next → HasGone I q place visit (half ∷ []) old new
  gone_one place next old new there vertex apart is small visits = elim visits [
    | inl kept ↦ subst (λ (s : Search). HasGone I q place visit (half ∷ []) old s) (sym kept.1) (record {
      keeps = record { visits = λ k t at. at; reached = λ v paid reached. reached };
      followed = All-cons (Followed old) half [] (λ leads. (apart, subst (λ (n : Visit). IsReached old n.vertex n.paid) is kept.0)) (All-nil (Followed old));
      search = λ search. search;
      weight = omega arith;
    })
    | inr adds ↦ record {
      keeps = adds_keeps old new next adds;
      followed = All-cons (Followed new) half [] (λ leads. (apart, subst (λ (n : Visit). IsReached new n.vertex n.paid) is (adds_reached old new next adds))) (All-nil (Followed new));
      search = adds_search old new next adds I q place (subst (IsVisit I q old.visits.items (length old.visits.items)) (sym is) comes);
      weight = adds_weight old new next adds I.n (subst (λ (n : Visit). IsVertex I.n n.vertex) (sym is) vertex) small;
    }
  ]
    where
      Followed : Search → Half → Type 0
      Followed s h = LeadsOn I q visit.vertex visit.paid h.to h.cost → IsFollowed I q s h.to (visit.paid + h.cost)

      comes : IsVisit I q old.visits.items (length old.visits.items) (record { vertex = half.to; paid = paid_after I half.to (visit.paid + half.cost); before = place })
      comes = record {
        vertex = vertex;
        within = after_within (is_required I half.to) (visit.paid + half.cost) q.limit within;
        comes = inr (record {
          from = visit;
          earlier = slice_get_within old.visits.items place visit there;
          there = there;
          goes = may_go;
          paid = ap (λ cost. paid_after I half.to (visit.paid + cost)) cost_is;
        });
      }

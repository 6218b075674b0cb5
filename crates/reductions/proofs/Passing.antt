-- A pass over all links, each of which is dropped where a detour is found.
use Rattle.std.proofs.Common.{◌≡◌, ℕ, ◌<◌, Bool, true, false, ◌||◌, cond, Result, Ok, Err, IfOk, OnOk, List, [], ◌∷◌, ◌++◌, reverse, Option, Some, None, IsSome, refl, sym, subst, ◌∙◌, arith, ◌⊎◌, inl, inr}
use Rattle.std.specs.Prelude.{All}
use Rattle.std.specs.List.{AllByRecursion}
use Rattle.std.specs.Bool.{OnTrue, OnFalse}
use Rattle.std.proofs.lemmas.List.Elements.{All-nil, All-push, recursion_from_All}
use Rattle.st_model.specs.declared.link.Link.{Link}
use Rattle.st_model.specs.Network.{Network, joins, link}
use Rattle.st_model.proofs.Distinct.{joins-ends}
use Rattle.lift_back.specs.Detours.{IsDetour}
use Rattle.special_dist.specs.Answers.{HasNoDetour}
use Rattle.reductions.specs.declared.work.Work.{Work}
use Rattle.reductions.specs.Results.{HasNoDetourStep}
use Rattle.reductions.specs.Sizes.{size}
use Rattle.reductions.specs.Working.{HasTried}
use Rattle.reductions.proofs.Reversing.{turned_detour}

-- where none of the links has a detour from its lower end on, none has any
pub no_detours : (I : Network) → All (λ l. HasNoDetour I l.a l.b) I.links → (a b : ℕ) (inner : List ℕ) → IsDetour I a b inner → ⊥
no_detours I all a b inner detour = among I.links (recursion_from_All (λ l. HasNoDetour I l.a l.b) I.links all) detour.linked
  where
    among : (ls : List Link) → AllByRecursion (λ l. HasNoDetour I l.a l.b) ls → IsSome (link ls a b) → ⊥
    among [] all linked = absurd cc
    among (l ∷ ls) all linked = by_pair (joins l a b) refl linked (among ls all.1)
      where
        ends_are : ((l.a ≡ a) × (l.b ≡ b)) ⊎ ((l.a ≡ b) × (l.b ≡ a)) → ⊥
        ends_are (inl same) = all.0 inner (subst (λ (p : ℕ × ℕ). IsDetour I p.0 p.1 inner) (λ j. (sym same.0 j, sym same.1 j)) detour)
        ends_are (inr turned) = all.0 (reverse inner) (subst (λ (p : ℕ × ℕ). IsDetour I p.0 p.1 (reverse inner)) (λ j. (sym turned.0 j, sym turned.1 j)) (turned_detour I a b inner detour))

        by_pair : (p : Bool) → joins l a b ≡ p → IsSome (cond p (Some l.cost) (link ls a b)) → (IsSome (link ls a b) → ⊥) → ⊥
        by_pair true is there later = ends_are (joins-ends l a b is)
        by_pair false is there later = later there

-- what trying some links has done
pub passed_none : (init : Work) (most : Option ℕ) → HasTried init init false most []
passed_none init most = record { some = tt; none = (refl, (λ is. All-nil (λ l. HasNoDetour init.reduced.state.instance l.a l.b))) }

pub passed_dropped : (init old new : Work) (any : Bool) (most : Option ℕ) (links more : List Link) → size new.reduced.state < size old.reduced.state → HasTried init old any most links → HasTried init new true most more
passed_dropped init old new true most links more less passed = record { some = (let before = passed.some in omega arith); none = tt }
passed_dropped init old new false most links more less passed = record { some = subst (λ (w : Work). size new.reduced.state < size w.reduced.state) passed.none.0 less; none = tt }

pub passed_kept : (init old new : Work) (any : Bool) (most : Option ℕ) (links : List Link) (l : Link) → new ≡ old → (most ≡ None → HasNoDetour old.reduced.state.instance l.a l.b) → HasTried init old any most links → HasTried init new any most (links ++ l ∷ [])
passed_kept init old new true most links l same without passed = record { some = subst (λ (w : Work). size w.reduced.state < size init.reduced.state) (sym same) passed.some; none = tt }
passed_kept init old new false most links l same without passed = record {
  some = tt;
  none = (same ∙ passed.none.0, λ is. All-push (λ l. HasNoDetour init.reduced.state.instance l.a l.b) links l (passed.none.1 is) (subst (λ (w : Work). HasNoDetour w.reduced.state.instance l.a l.b) passed.none.0 (without is)));
}

-- a link was tried
pub passed_step : (init old new : Work) (any dropped : Bool) (most : Option ℕ) (links : List Link) (l : Link) → OnTrue dropped (size new.reduced.state < size old.reduced.state) → OnFalse dropped ((new ≡ old) × (most ≡ None → HasNoDetour old.reduced.state.instance l.a l.b)) → HasTried init old any most links → HasTried init new (any || dropped) most (links ++ l ∷ [])
passed_step init old new true true most links l less kept passed = passed_dropped init old new true most links (links ++ l ∷ []) less passed
passed_step init old new false true most links l less kept passed = passed_dropped init old new false most links (links ++ l ∷ []) less passed
passed_step init old new true false most links l less kept passed = passed_kept init old new true most links l kept.0 kept.1 passed
passed_step init old new false false most links l less kept passed = passed_kept init old new false most links l kept.0 kept.1 passed

-- all links were tried
pub tried_all : (old new : Work) (any : Bool) (links : List Link) → links ≡ old.reduced.state.instance.links → HasTried old new any None links → OnFalse any ((new ≡ old) × HasNoDetourStep new.reduced.state)
tried_all old new true links are tried = tt
tried_all old new false links are tried = (
  tried.none.0,
  λ a b inner detour.
      no_detours old.reduced.state.instance (subst (All (λ l. HasNoDetour old.reduced.state.instance l.a l.b)) are (tried.none.1 refl)) a b inner
      (subst (λ (w : Work). IsDetour w.reduced.state.instance a b inner) tried.none.0 detour),
)

-- where something is surely dropped, nothing is said of the other case
pub surely_dropped : {E : Type 0} (P : Type 0) (r : Result Bool E) → IfOk r (λ dropped. dropped ≡ true) → IfOk r (λ dropped. OnFalse dropped P)
surely_dropped P (Ok true) is = tt
surely_dropped P (Ok false) is = absurd cc
surely_dropped P (Err e) is = tt

pub if_dropped : {E : Type 0} (P : Type 0) (r : Result Bool E) → OnOk r P → IfOk r (λ dropped. OnTrue dropped P)
if_dropped P (Ok true) holds = holds
if_dropped P (Ok false) holds = tt
if_dropped P (Err e) holds = tt

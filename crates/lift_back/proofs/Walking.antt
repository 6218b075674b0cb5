-- A walk that stands in for a link, one link at a time.
use Rattle.std.proofs.Common.{◌≡◌, ◌≢◌, ℕ, ◌+◌, ◌≤◌, ◌<◌, cond, List, [], ◌∷◌, ◌++◌, length, get_or, drop, IsSome, Option, Some, None, IfSome, IfNone, is_some, ◌↔◌, refl, sym, ap, subst, ◌∙◌}
use Rattle.std.specs.Prelude.{IsTrue, IsFalse}
use Rattle.std.specs.List.{AllByRecursion}
use Rattle.std.proofs.lemmas.Bool.{false≢true}
use Rattle.std.proofs.lemmas.List.{drop_more, drop_all}
use Rattle.std.proofs.lemmas.List.Elements.{recursion_from_All, All-from_recursion}
use Rattle.st_model.specs.Network.{Network, link, is_required}
use Rattle.st_model.specs.Arborescence.{arc_cost}
use Rattle.st_model.specs.Made.{is_between}
use Rattle.lift_back.specs.Detours.{walk, StaysWithin, IsDetour, MayGo}

-- what is left of the walk: from here over these to b, with this paid
pub record GoesOn (I : Network) (a b limit paid from : ℕ) (rest : List ℕ) : Type 0 where
  pub links : AllByRecursion (λ step. IsSome (link I.links step.0 step.1)) (walk from (rest ++ b ∷ []))
  pub other : AllByRecursion (λ step. IsFalse (is_between (a, b) step.0 step.1)) (walk from (rest ++ b ∷ []))
  pub pieces : StaysWithin I limit paid (walk from (rest ++ b ∷ []))

-- the whole walk
pub detour_goes : (I : Network) (a b limit : ℕ) (inner : List ℕ) → limit ≡ arc_cost I (a, b) → IsDetour I a b inner → GoesOn I a b limit 0 a inner
detour_goes I a b limit inner is detour = record {
  links = recursion_from_All _ _ detour.links;
  other = recursion_from_All _ _ detour.other;
  pieces = subst (λ (m : ℕ). StaysWithin I m 0 (walk a (inner ++ b ∷ []))) (sym is) detour.pieces;
}

pub goes_detour : (I : Network) (a b limit : ℕ) (inner : List ℕ) → limit ≡ arc_cost I (a, b) → IsSome (link I.links a b) → inner ≢ [] → GoesOn I a b limit 0 a inner → IsDetour I a b inner
goes_detour I a b limit inner is linked some goes = record {
  linked = linked;
  some = some;
  links = All-from_recursion _ _ goes.links;
  other = All-from_recursion _ _ goes.other;
  pieces = subst (λ (m : ℕ). StaysWithin I m 0 (walk a (inner ++ b ∷ []))) is goes.pieces;
}

-- the next link, and the walk from there
pub first_goes : (I : Network) (a b limit paid from next : ℕ) (rest : List ℕ) → GoesOn I a b limit paid from (next ∷ rest) → MayGo I a b limit paid from next × GoesOn I a b limit (cond (is_required I next) 0 (paid + arc_cost I (from, next))) next rest
first_goes I a b limit paid from next rest goes = (record { linked = goes.links.0; other = goes.other.0; within = goes.pieces.0 }, record { links = goes.links.1; other = goes.other.1; pieces = goes.pieces.1 })

pub goes_first : (I : Network) (a b limit paid from next : ℕ) (rest : List ℕ) → MayGo I a b limit paid from next → GoesOn I a b limit (cond (is_required I next) 0 (paid + arc_cost I (from, next))) next rest → GoesOn I a b limit paid from (next ∷ rest)
goes_first I a b limit paid from next rest may goes = record { links = (may.linked, goes.links); other = (may.other, goes.other); pieces = (may.within, goes.pieces) }

-- the last link
pub last_goes : (I : Network) (a b limit paid from : ℕ) → GoesOn I a b limit paid from [] → MayGo I a b limit paid from b
last_goes I a b limit paid from goes = record { linked = goes.links.0; other = goes.other.0; within = goes.pieces.0 }

pub goes_last : (I : Network) (a b limit paid from : ℕ) → MayGo I a b limit paid from b → GoesOn I a b limit paid from []
goes_last I a b limit paid from may = record { links = (may.linked, tt); other = (may.other, tt); pieces = (may.within, tt) }

-- one link further, what goes on is the rest of the walk
pub step_on : (I : Network) (a b limit paid from more i next : ℕ) (inner : List ℕ) → i < length inner → next ≡ get_or inner i 0 → (GoesOn I a b limit 0 a inner ↔ GoesOn I a b limit paid from (drop i inner)) → more ≡ cond (is_required I next) 0 (paid + arc_cost I (from, next)) → MayGo I a b limit paid from next → GoesOn I a b limit 0 a inner ↔ GoesOn I a b limit more next (drop (i + 1) inner)
step_on I a b limit paid from more i next inner within is goes more_is may =
    let rest : drop i inner ≡ next ∷ drop (i + 1) inner = drop_more inner i 0 within ∙ ap (λ x. x ∷ drop (i + 1) inner) (sym is) in (
      (λ whole. subst (λ (m : ℕ). GoesOn I a b limit m next (drop (i + 1) inner)) (sym more_is) (first_goes I a b limit paid from next (drop (i + 1) inner) (subst (GoesOn I a b limit paid from) rest (goes.0 whole))).1),
      (λ later. goes.1 (subst (GoesOn I a b limit paid from) (sym rest) (goes_first I a b limit paid from next (drop (i + 1) inner) may (subst (λ (m : ℕ). GoesOn I a b limit m next (drop (i + 1) inner)) more_is later)))),
    )

-- where it may not go on, it is no walk
pub stopped : (I : Network) (a b limit paid from i next : ℕ) (inner : List ℕ) → i < length inner → next ≡ get_or inner i 0 → (GoesOn I a b limit 0 a inner ↔ GoesOn I a b limit paid from (drop i inner)) → (MayGo I a b limit paid from next → ⊥) → GoesOn I a b limit 0 a inner → ⊥
stopped I a b limit paid from i next inner within is goes may_not whole =
    let rest : drop i inner ≡ next ∷ drop (i + 1) inner = drop_more inner i 0 within ∙ ap (λ x. x ∷ drop (i + 1) inner) (sym is) in
    may_not (first_goes I a b limit paid from next (drop (i + 1) inner) (subst (GoesOn I a b limit paid from) rest (goes.0 whole))).0

-- at the end it has to reach b
pub ended : (I : Network) (a b limit paid from i : ℕ) (inner : List ℕ) (r : Option ℕ) (P : ℕ → Type 0) → length inner ≤ i → limit ≡ arc_cost I (a, b) → IsSome (link I.links a b) → inner ≢ [] → (GoesOn I a b limit 0 a inner ↔ GoesOn I a b limit paid from (drop i inner)) → IfSome r (λ more. P more × MayGo I a b limit paid from b) → IfNone r (MayGo I a b limit paid from b → ⊥) → IsTrue (is_some r) ↔ IsDetour I a b inner
ended I a b limit paid from i inner None P over limit_is linked some goes there none =
    ((λ h. absurd (false≢true h)), (λ detour. absurd (none (last_goes I a b limit paid from (subst (GoesOn I a b limit paid from) (drop_all i inner over) (goes.0 (detour_goes I a b limit inner limit_is detour)))))))
ended I a b limit paid from i inner (Some more) P over limit_is linked some goes there none =
    ((λ h. goes_detour I a b limit inner limit_is linked some (goes.1 (subst (GoesOn I a b limit paid from) (sym (drop_all i inner over)) (goes_last I a b limit paid from there.1)))), (λ detour. refl))

-- How many vertices a tree reaches, and how many a claim with the same vertices has.
use Rattle.std.proofs.Common.{◌≡◌, ℕ, suc, ◌+◌, Bool, true, false, cond, eqb, ltb, List, [], ◌∷◌, length, refl, sym, ap, ◌∙◌, arith}
use Rattle.std.specs.Prelude.{◌==◌}
use Rattle.std.specs.List.Sorted.{IsStrictlyIncreasing}
use Rattle.std.proofs.lemmas.Bool.{or_parts}
use Rattle.std.proofs.lemmas.Bool.Decides.{nat_tests}
use Rattle.st_model.specs.Arborescence.{GrowsIn, reached_from}
use Rattle.st_model.specs.Ground.{Ground}
use Rattle.st_model.specs.Lists.{has}
use Rattle.st_model.specs.VertexSet.{AllApart}
use Rattle.solution_reader.proofs.Claims.{insert, sorted, has-sorted, sorted_ascending, same_ascending}

-- each arc reaches one vertex more
pub length-reached : (r : List ℕ) (arcs : List (ℕ × ℕ)) → length (reached_from r arcs) ≡ length r + length arcs
length-reached r [] = omega arith
length-reached r (arc ∷ arcs) = let rest = length-reached (arc.1 ∷ r) arcs in omega (arith, rest)

pub apart-reached : (G : Ground) (r : List ℕ) (arcs : List (ℕ × ℕ)) → GrowsIn G r arcs → AllApart r → AllApart (reached_from r arcs)
apart-reached G r [] g apart = apart
apart-reached G r (arc ∷ arcs) g apart = apart-reached G (arc.1 ∷ r) arcs g.3 (g.2, apart)

length-insert : (v : ℕ) (xs : List ℕ) → has xs v ≡ false → length (insert v xs) ≡ suc (length xs)
length-insert v [] h = refl
length-insert v (x ∷ xs) h = let p = or_parts (x == v) (has xs v) h in by_case (eqb v x) (ltb v x) refl p.0 (length-insert v xs p.1)
  where
    by_case : (e l : Bool) → eqb v x ≡ e → eqb x v ≡ false → length (insert v xs) ≡ suc (length xs) → length (cond e (x ∷ xs) (cond l (v ∷ x ∷ xs) (x ∷ insert v xs))) ≡ suc (suc (length xs))
    by_case true l is other rest = absurd (grind (arith, nat_tests))
    by_case false true is other rest = refl
    by_case false false is other rest = ap suc rest

length-sorted : (vs : List ℕ) → AllApart vs → length (sorted vs) ≡ length vs
length-sorted [] h = refl
length-sorted (v ∷ vs) h = length-insert v (sorted vs) (has-sorted vs v ∙ h.0) ∙ ap suc (length-sorted vs h.1)

-- lists with the same members, of which one ascends and the other has none twice, are as long
pub same_length : (xs ys : List ℕ) → IsStrictlyIncreasing xs → AllApart ys → ((v : ℕ) → has xs v ≡ has ys v) → length xs ≡ length ys
same_length xs ys up apart same = ap length (same_ascending xs (sorted ys) up (sorted_ascending ys) (λ v. same v ∙ sym (has-sorted ys v))) ∙ length-sorted ys apart

use Rattle.std.proofs.Common.{◌≡◌, ℕ, false, eqb, List, [], ◌∷◌, sym, ◌∙◌, subst, arith}
use Rattle.std.specs.Prelude.{◌==◌, IsFalse}
use Rattle.std.specs.List.{AllByRecursion, IsDistinct}
use Rattle.std.proofs.lemmas.Bool.{false≢true, eq-eqb, or_parts, ne_eqb}
use Rattle.std.proofs.lemmas.Bool.Decides.{nat_tests}
use Rattle.std.proofs.lemmas.List.Sorted.{list_any-IsPermutation, IsNonDecreasingBy-from_sort}
use Rattle.std.proofs.lemmas.Map.Keys.{IsStrictlyIncreasing-from_distinct, IsDistinct-IsPermutation}
use Rattle.st_model.specs.Lists.{has}
use Rattle.st_model.specs.VertexSet.{AllApart}
use Rattle.st_model.proofs.vertex_set.VertexSet.ascending.Goals as goal

-- no number twice
distinct_from_apart : (xs : List ℕ) → AllApart xs → IsDistinct eqb xs
unfolding IsDistinct
distinct_from_apart [] h = tt
distinct_from_apart (x ∷ xs) h = (others xs h.0, distinct_from_apart xs h.1)
  where
    others : (ys : List ℕ) → IsFalse (has ys x) → AllByRecursion (λ y. eqb x y ≡ false) ys
    others [] e = tt
    others (y ∷ ys) e = let parts = or_parts (y == x) (has ys x) e in (ne_eqb x y (λ same. false≢true (sym parts.0 ∙ eq-eqb y x (sym same))), others ys parts.1)

eqb_flips : (x y : ℕ) → eqb x y ≡ eqb y x
eqb_flips x y = grind (arith, nat_tests)

pub returns-clause-members : goal.returns-clause-members
returns-clause-members c v =
    let copied = c.in_ok-members.ensures.items ∙ c.members.ensures.all in
    rw (← copied) (sym (list_any-IsPermutation (λ x. x == v) c.in_ok-members.members.items c.sort.new.self.items c.in_ok-sort.ensures.permutation))

pub returns-clause-ascending : goal.returns-clause-ascending
returns-clause-ascending c =
    let copied = c.in_ok-members.ensures.items ∙ c.members.ensures.all in
    let apart = distinct_from_apart c.in_ok-members.members.items (subst AllApart (sym copied) c.members.ensures.apart) in
    let sorted = c.sort.new.self.items in
    IsStrictlyIncreasing-from_distinct sorted (IsNonDecreasingBy-from_sort (λ x. x) sorted c.in_ok-sort.ensures.sorted)
    (IsDistinct-IsPermutation eqb eqb_flips c.in_ok-members.members.items sorted c.in_ok-sort.ensures.permutation apart)

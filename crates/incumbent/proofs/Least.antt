-- The least of a start and a list.
use Rattle.std.proofs.Common.{◌≡◌, ℕ, ◌≤◌, min, List, [], ◌∷◌, ◌++◌, arith}
use Rattle.std.proofs.lemmas.Bool.Decides.{nat_tests}
use Rattle.incumbent.specs.Least.{least_of}

pub least_at_start : (start : ℕ) (xs : List ℕ) → least_of start xs ≤ start
least_at_start start [] = omega arith
least_at_start start (x ∷ xs) = let h = least_at_start start xs in grind (arith, nat_tests)

pub least_append : (start : ℕ) (xs ys : List ℕ) → least_of start (xs ++ ys) ≡ min (least_of start xs) (least_of start ys)
least_append start [] ys = let h = least_at_start start ys in grind (arith, nat_tests)
least_append start (x ∷ xs) ys = let h = least_append start xs ys in grind (arith, nat_tests)

-- Two vertices in either order.
use Rattle.std.proofs.Common.{◌≡◌, ℕ, min, max, arith}
use Rattle.std.proofs.lemmas.Bool.Decides.{nat_tests}
use Rattle.st_model.specs.Made.{is_between}
use Rattle.graph_store.specs.Changes.{are_ends}

-- the lower and the higher of two vertices are the ends of the same pair
pub between_ends_too : (a b low high x y : ℕ) → low ≡ min a b → high ≡ max a b → is_between (low, high) x y ≡ is_between (a, b) x y
between_ends_too a b low high x y low_is high_is = grind (arith, nat_tests)

-- and that two others are their ends is the same test
pub between_are : (a b u w : ℕ) → are_ends a b u w ≡ is_between (a, b) u w
between_are a b u w = grind (arith, nat_tests)

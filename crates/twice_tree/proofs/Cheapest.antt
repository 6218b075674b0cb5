-- The cheapest of the offers that wait.
use Rattle.std.proofs.Common.{◌≡◌, ℕ, ◌≤◌, Bool, true, false, cond, nat_lt, List, [], ◌∷◌, refl, sym, arith}
use Rattle.std.specs.declared.cmp.Ordering.{Ordering}
use Rattle.std.specs.declared.cmp.Ordering.TheVariants.{Less, Equal, Greater}
use Rattle.std.specs.declared.cmp.Reverse.{Reverse}
use Rattle.std.specs.BinaryHeap.{IsUpperBound}
use Rattle.std.specs.List.{AllByRecursion}
use Rattle.std.specs.Ordering.{is_lt, nat_cmp, ordering_then}
use Rattle.std.specs.Prelude.{◌==◌, All}
use Rattle.std.proofs.lemmas.Bool.{false≢true}
use Rattle.std.proofs.lemmas.Bool.Decides.{nat_tests}
use Rattle.std.proofs.lemmas.List.Elements.{All-from_recursion}
use Rattle.twice_tree.specs.declared.offers.Offer.{Offer}
use Rattle.twice_tree.specs.Order.{offer_cmp}

-- what comes no later is no dearer
no_dearer : (a b : ℕ) (rest : Ordering) → is_lt (ordering_then (nat_cmp b a) rest) ≡ false → a ≤ b
no_dearer a b rest first = at (nat_lt b a) refl first
  where
    at : (less : Bool) → nat_lt b a ≡ less → is_lt (ordering_then (cond less Less (cond (b == a) Equal Greater)) rest) ≡ false → a ≤ b
    at true is h = absurd (false≢true (sym h))
    at false is h = grind (arith, nat_tests)

by_recursion : (x : Reverse Offer) (xs : List (Reverse Offer)) → IsUpperBound offer_cmp x xs → AllByRecursion (λ (y : Reverse Offer). x.0.cost ≤ y.0.cost) xs
by_recursion x [] h = tt
by_recursion x (y ∷ ys) h = (no_dearer x.0.cost y.0.cost _ h.0, by_recursion x ys h.1)

pub cheapest_first : (x : Reverse Offer) (xs : List (Reverse Offer)) → IsUpperBound offer_cmp x xs → All (λ (y : Reverse Offer). x.0.cost ≤ y.0.cost) xs
cheapest_first x xs h = All-from_recursion (λ (y : Reverse Offer). x.0.cost ≤ y.0.cost) xs (by_recursion x xs h)

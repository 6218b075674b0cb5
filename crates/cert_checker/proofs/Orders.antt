-- The sets of a branch are written in order, and are searched by halves.
use Rattle.std.proofs.Common.{◌≡◌, ℕ, zero, suc, ◌<◌, ◌≤◌, Bool, true, false, cond, List, [], ◌∷◌, ◌⊎◌, inl, inr, length, get_or, refl, arith}
use Rattle.std.specs.Prelude.{nat_lt}
use Rattle.std.specs.List.{AllByRecursion, prefix_len}
use Rattle.std.specs.List.Sorted.{IsNonDecreasing, IsPartitionPoint}
use Rattle.std.proofs.lemmas.Bool.{both_ways, cases_order}
use Rattle.std.proofs.lemmas.Bool.Decides.{nat_tests}
use Rattle.std.proofs.lemmas.List.Sums.{prefix_len_passes, prefix_len_stops, prefix_len-le-length}
use Rattle.std.proofs.lemmas.List.Elements.{recursion_from_All}
use Rattle.st_model.specs.Lists.{has}
use Rattle.st_model.specs.Branch.{joined, with_vertex}
use Rattle.cert_checker.specs.declared.turn.Turn.{Turn}
use Rattle.cert_checker.specs.declared.turn.Turn.TheVariants.{Inside, Outside, Used, Barred}
use Rattle.cert_checker.specs.Path.{IsInOrder, branch_of, without, without_new}
use Rattle.st_model.proofs.Branches.{all-with_vertex}

-- no number is above a later one
abbrev Rises : List ℕ → Type 0
Rises [] = Unit {0}
Rises (x ∷ xs) = AllByRecursion (λ y. x ≤ y) xs × Rises xs

-- what is below one is below what that one is below
all_above : (x y : ℕ) (xs : List ℕ) → x ≤ y → AllByRecursion (λ z. y ≤ z) xs → AllByRecursion (λ z. x ≤ z) xs
all_above x y [] low h = tt
all_above x y (z ∷ xs) low h = let here : y ≤ z = h.0 in (omega arith, all_above x y xs low h.1)

-- in order with one more
rises_with : (xs : List ℕ) (v : ℕ) → Rises xs → Rises (with_vertex xs v)
rises_with [] v h = (tt, tt)
rises_with (x ∷ xs) v h = at (nat_lt x v) refl (rises_with xs v h.1)
  where
    at : (b : Bool) → nat_lt x v ≡ b → Rises (with_vertex xs v) → Rises (cond b (x ∷ with_vertex xs v) (v ∷ x ∷ xs))
    at true e rest = (all-with_vertex (λ y. x ≤ y) xs v (grind (arith, nat_tests, e)) h.0, rest)
    at false e rest = let low : v ≤ x = grind (arith, nat_tests, e) in ((low, all_above v x xs low h.0), h)

-- in order with one more, once
rises_joined : (xs : List ℕ) (v : ℕ) → Rises xs → Rises (joined xs v)
rises_joined xs v h = at (has xs v)
  where
    at : (b : Bool) → Rises (cond b xs (with_vertex xs v))
    at true = h
    at false = rises_with xs v h

-- in order with one less
all_without : (P : ℕ → Type 0) (xs : List ℕ) (v : ℕ) → AllByRecursion P xs → AllByRecursion P (without xs v)
all_without P [] v h = tt
all_without P (x ∷ xs) v h = at (nat_lt x v) (all_without P xs v h.1)
  where
    at : (b : Bool) → AllByRecursion P (without xs v) → AllByRecursion P (cond b (x ∷ without xs v) xs)
    at true rest = (h.0, rest)
    at false rest = h.1

rises_without : (xs : List ℕ) (v : ℕ) → Rises xs → Rises (without xs v)
rises_without [] v h = tt
rises_without (x ∷ xs) v h = at (nat_lt x v) (rises_without xs v h.1)
  where
    at : (b : Bool) → Rises (without xs v) → Rises (cond b (x ∷ without xs v) xs)
    at true rest = (all_without (λ y. x ≤ y) xs v h.0, rest)
    at false rest = h.1

rises_without_new : (xs : List ℕ) (v : ℕ) (came : Bool) → Rises xs → Rises (without_new xs v came)
rises_without_new xs v true h = rises_without xs v h
rises_without_new xs v false h = h

-- by places
at_place : (x : ℕ) (xs : List ℕ) (j d : ℕ) → j < length xs → AllByRecursion (λ y. x ≤ y) xs → x ≤ get_or xs j d
at_place x [] j d below h = absurd (omega arith)
at_place x (y ∷ ys) zero d below h = h.0
at_place x (y ∷ ys) (suc j) d below h = at_place x ys j d (omega arith) h.1

in_order : (xs : List ℕ) → Rises xs → IsNonDecreasing xs
in_order [] h i j d low below = absurd (omega arith)
in_order (x ∷ xs) h zero zero d low below = omega arith
in_order (x ∷ xs) h zero (suc j) d low below = at_place x xs j d (omega arith) h.0
in_order (x ∷ xs) h (suc i) zero d low below = absurd (omega arith)
in_order (x ∷ xs) h (suc i) (suc j) d low below = in_order xs h.1 i j d (omega arith) (omega arith)

-- a list in order stays so with one more, and with one less
rises : (xs : List ℕ) → IsNonDecreasing xs → Rises xs
rises [] h = tt
rises (x ∷ xs) h = (recursion_from_All (λ y. x ≤ y) xs (λ k d within. h 0 (suc k) d (omega arith) (omega arith)), rises xs (λ i j d low below. h (suc i) (suc j) d (omega arith) (omega arith)))

pub order-joined : (xs : List ℕ) (v : ℕ) → IsNonDecreasing xs → IsNonDecreasing (joined xs v)
order-joined xs v h = in_order (joined xs v) (rises_joined xs v (rises xs h))

pub order-without_new : (xs : List ℕ) (v : ℕ) (came : Bool) → IsNonDecreasing xs → IsNonDecreasing (without_new xs v came)
order-without_new xs v came h = in_order (without_new xs v came) (rises_without_new xs v came (rises xs h))

both_rise : (path : List Turn) → Rises (branch_of path).inside × Rises (branch_of path).outside
both_rise [] = (tt, tt)
both_rise (Inside v ∷ path) = let before = both_rise path in (rises_with (branch_of path).inside v before.0, before.1)
both_rise (Outside v ∷ path) = let before = both_rise path in (before.0, rises_with (branch_of path).outside v before.1)
both_rise (Used a b a_came b_came ∷ path) = let before = both_rise path in (rises_joined (joined (branch_of path).inside a) b (rises_joined (branch_of path).inside a before.0), before.1)
both_rise (Barred a b ∷ path) = both_rise path

-- turns lead to sets in order
pub branch_of-in_order : (path : List Turn) → IsInOrder (branch_of path)
branch_of-in_order path =
    let rise = both_rise path in
    record { inside = in_order (branch_of path).inside rise.0; outside = in_order (branch_of path).outside rise.1 }

-- a partition point is how many pass
pub partition_is : (p : ℕ → Bool) (xs : List ℕ) (r : ℕ) → r ≤ length xs → IsPartitionPoint (λ y. p y ≡ true) (λ y. p y ≡ false) xs r → r ≡ prefix_len p xs
partition_is p xs r bound point = at (cases_order r (prefix_len p xs))
  where
    at : (r ≡ prefix_len p xs) ⊎ ((r < prefix_len p xs) ⊎ (prefix_len p xs < r)) → r ≡ prefix_len p xs
    at (inl same) = same
    at (inr (inl less)) = absurd (both_ways (p (get_or xs r 0)) (point.1 r 0 (omega arith) (omega (arith, prefix_len-le-length p xs))) (prefix_len_passes p xs r 0 less))
    at (inr (inr more)) = absurd (both_ways (p (get_or xs (prefix_len p xs) 0)) (prefix_len_stops p xs 0 (omega arith)) (point.0 (prefix_len p xs) 0 (omega arith) more))

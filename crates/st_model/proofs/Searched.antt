-- A search by halves in a list in order.
use Rattle.std.proofs.Common.{◌≡◌, ℕ, ◌<◌, ◌≤◌, List, ◌⊎◌, inl, inr, length, get_or, Result, Ok, Err, sym, subst, arith}
use Rattle.std.specs.Prelude.{IsTrue, is_ok, MatchResult}
use Rattle.std.specs.Ordering.{nat_cmp}
use Rattle.std.specs.List.Sorted.{IsNonDecreasing, IsBinarySearchResult}
use Rattle.std.proofs.lemmas.Bool.{false_from_ne_true, cases_lt}
use Rattle.std.proofs.lemmas.List.Sorted.{searched}
use Rattle.st_model.specs.Lists.{has}
use Rattle.st_model.proofs.Marked.{has_at, place_of}

-- a search by halves tells whether it is there
pub search_has : (xs : List ℕ) (v : ℕ) (r : Result ℕ ℕ) → IsNonDecreasing xs → IsBinarySearchResult (λ y. nat_cmp y v) xs r → is_ok r ≡ has xs v
search_has xs v r order found = at r (searched xs v r found (λ i j low below. order i j 0 low below))
  where
    at : (r : Result ℕ ℕ) → MatchResult r (λ i. (i < length xs) × (get_or xs i 0 ≡ v)) (λ i. (i ≤ length xs) × ((k : ℕ) → k < i → get_or xs k 0 < v) × ((k : ℕ) → i ≤ k → k < length xs → v < get_or xs k 0)) → is_ok r ≡ has xs v
    at (Ok i) here = sym (subst (λ x. IsTrue (has xs x)) here.1 (has_at xs i 0 here.0))
    at (Err i) here = sym (false_from_ne_true (has xs v) (λ there. let place = place_of xs v there in differs place.0 place.1 place.2 i here.1 here.2 (cases_lt place.0 i)))
      where
        differs : (k : ℕ) → k < length xs → get_or xs k 0 ≡ v → (i : ℕ) → ((k : ℕ) → k < i → get_or xs k 0 < v) → ((k : ℕ) → i ≤ k → k < length xs → v < get_or xs k 0) → (k < i) ⊎ (i ≤ k) → ⊥
        differs k below same i low high (inl side) = omega (arith, low k side)
        differs k below same i low high (inr side) = omega (arith, high k side below)

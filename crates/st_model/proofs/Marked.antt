-- Marks at the members of a list.
use Rattle.std.proofs.Common.{◌≡◌, ◌≢◌, ℕ, zero, suc, ◌+◌, ◌<◌, ◌≤◌, Bool, true, false, ◌||◌, eqb, List, [], ◌∷◌, ◌++◌, length, take, drop, get_or, set, ◌⊎◌, inl, inr, refl, sym, ap, ◌∙◌, get_or-set_same, get_or-set_other, drop-cons, add-one, arith}
use Rattle.std.specs.Prelude.{◌==◌, All, AllPairs, IsTrue, IsFalse}
use Rattle.std.proofs.lemmas.Bool.{cases_eq, cases_lt, ne_eqb, eq-eqb, or_parts, or_left, or_from, or_cases, eqb-true, false≢true}
use Rattle.std.proofs.Math.Bool.{or-true, or-false}
use Rattle.std.proofs.lemmas.List.{get_or_past, take_more}
use Rattle.std.proofs.lemmas.List.Folds.{list_any-append, list_any_at, list_any_none}
use Rattle.std.proofs.lemmas.List.Elements.{recursion_from_All}
use Rattle.std.proofs.lemmas.Map.Steps.{length-le_from_distinct_below}
use Rattle.std.proofs.lemmas.Bool.Decides.{nat_tests}
use Rattle.std.specs.List.{list_any, AllByRecursion, IsDistinct}
use Rattle.std.specs.List.Sorted.{IsStrictlyIncreasing}
use Rattle.std.proofs.lemmas.List.Kept.{AllPairs-from_increasing}
use Rattle.st_model.specs.Lists.{has}
use Rattle.st_model.specs.VertexSet.{AllApart, IsMarked}

-- an element is a member
pub has_at : (xs : List ℕ) (k d : ℕ) → k < length xs → IsTrue (has xs (get_or xs k d))
has_at xs k d below = list_any_at (λ x. x == get_or xs k d) xs k d below (eq-eqb (get_or xs k d) (get_or xs k d) refl)

pub has-push : (xs : List ℕ) (y v : ℕ) → has (xs ++ y ∷ []) v ≡ (has xs v || (y == v))
has-push xs y v = list_any-append (λ x. x == v) xs (y ∷ []) ∙ ap (λ b. has xs v || b) (or-false (y == v))

-- a list has no vertex twice where the last one is new
pub AllApart-push : (xs : List ℕ) (y : ℕ) → AllApart xs → IsFalse (has xs y) → AllApart (xs ++ y ∷ [])
AllApart-push [] y h new = (refl, tt)
AllApart-push (x ∷ xs) y h new =
    let parts = or_parts (x == y) (has xs y) new in
    (rw (has-push xs y x, h.0) (other parts.0), AllApart-push xs y h.1 parts.1)
  where
    other : IsFalse (x == y) → IsFalse (y == x)
    other differ = ne_eqb y x (λ same. false≢true (sym differ ∙ eq-eqb x y (sym same)))

-- a marked number has a place among the marks
pub marked_below : (marks : List Bool) (v : ℕ) → IsTrue (get_or marks v false) → v < length marks
marked_below marks v marked =
    elim (cases_lt v (length marks)) [
      | inl below ↦ below
      | inr past ↦ absurd (false≢true (sym (get_or_past marks v false past) ∙ marked))
    ]

pub IsMarked-in_range : (marks : List Bool) (members : List ℕ) → IsMarked marks members → All (λ v. v < length marks) members
IsMarked-in_range marks members h = λ k d below. marked_below marks _ (h.marked _ ∙ has_at members k d below)

-- a number is marked, and becomes a member
pub IsMarked-insert : (marks : List Bool) (members : List ℕ) (v : ℕ) → IsMarked marks members → v < length marks → IsFalse (get_or marks v false) → IsMarked (set marks v true) (members ++ v ∷ [])
IsMarked-insert marks members v h room new = record {
  marked = λ w. rw (has-push members v w) (at_vertex w (cases_eq w v));
  apart = AllApart-push members v h.apart (sym (h.marked v) ∙ new);
}
  where
    at_vertex : (w : ℕ) → (w ≡ v) ⊎ (w ≡ v → ⊥) → get_or (set marks v true) w false ≡ (has members w || (v == w))
    at_vertex w (inl same) = rw (same, get_or-set_same, eq-eqb v v refl) (sym (or-true _))
    at_vertex w (inr other) =
        let apart : w ≢ v = other in
        rw (get_or-set_other, h.marked w, ne_eqb v w (λ same. other (sym same))) (sym (or-false _))

-- the mark of the first member goes, and the others stay
pub IsMarked-rest : (marks : List Bool) (v : ℕ) (rest : List ℕ) → IsMarked marks (v ∷ rest) → v < length marks → IsMarked (set marks v false) rest
IsMarked-rest marks v rest h room = record { marked = λ w. at_vertex w (cases_eq w v); apart = h.apart.1 }
  where
    at_vertex : (w : ℕ) → (w ≡ v) ⊎ (w ≡ v → ⊥) → get_or (set marks v false) w false ≡ has rest w
    at_vertex w (inl same) = rw (same, get_or-set_same, h.apart.0) refl
    at_vertex w (inr other) =
        let apart : w ≢ v = other in
        rw (get_or-set_other, h.marked w, ne_eqb v w (λ same. other (sym same))) refl

-- the same at a place in the list
pub IsMarked-drop : (marks : List Bool) (members : List ℕ) (i : ℕ) → i < length members → IsMarked marks (drop i members) → get_or members i 0 < length marks → IsMarked (set marks (get_or members i 0) false) (drop (i + 1) members)
IsMarked-drop marks members i below h room =
    rw (add-one i) (IsMarked-rest marks (get_or members i 0) (drop (suc i) members) (rw (drop-cons members i 0 below) at h) room)

-- the member at a place has its mark
pub IsMarked-at : (marks : List Bool) (members : List ℕ) (i : ℕ) → i < length members → IsMarked marks (drop i members) → get_or members i 0 < length marks
IsMarked-at marks members i below h =
    let now = rw (drop-cons members i 0 below) at h in
    marked_below marks _ (now.marked _ ∙ or_left (get_or members i 0 == get_or members i 0) _ (eq-eqb _ _ refl))

-- numbers that ascend are different
pub AllApart-from_increasing : (xs : List ℕ) → IsStrictlyIncreasing xs → AllApart xs
AllApart-from_increasing xs rise = by_pairs xs (AllPairs-from_increasing xs rise)
  where
    by_pairs : (xs : List ℕ) → AllPairs (λ x y. x < y) xs → AllApart xs
    by_pairs [] h = tt
    by_pairs (x ∷ xs) h =
        (list_any_none _ xs (λ k d below. ne_eqb _ x (λ same. absurd (omega (arith, h 0 (suc k) d (omega arith) (omega arith))))), by_pairs xs (λ i j d before below. h (suc i) (suc j) d (omega arith) (omega arith)))

-- no element stands before its place
pub AllApart-at : (xs : List ℕ) (i : ℕ) → AllApart xs → i < length xs → IsFalse (has (take i xs) (get_or xs i 0))
AllApart-at [] i apart below = absurd (omega arith)
AllApart-at (x ∷ xs) zero apart below = refl
AllApart-at (x ∷ xs) (suc i) apart below =
    or_from (x == get_or xs i 0) (has (take i xs) (get_or xs i 0)) (ne_eqb x (get_or xs i 0) (λ same. false≢true (sym apart.0 ∙ (rw same (has_at xs i 0 (omega arith)))))) (AllApart-at xs i apart.1 (omega arith))

-- one element more
pub has_more : (xs : List ℕ) (i v : ℕ) → i < length xs → has (take (i + 1) xs) v ≡ (has (take i xs) v || (get_or xs i 0 == v))
has_more xs i v below = rw (take_more xs i 0 below) (has-push (take i xs) (get_or xs i 0) v)

-- what holds of each element holds of a member
pub at_member : (P : ℕ → Type 0) (xs : List ℕ) (v : ℕ) → AllByRecursion P xs → IsTrue (has xs v) → P v
at_member P [] v h member = absurd (false≢true member)
at_member P (x ∷ xs) v h member =
    elim (or_cases (x == v) (has xs v) member) [
      | inl same ↦ rw (← eqb-true x v same) h.0
      | inr later ↦ at_member P xs v h.1 later
    ]

-- a member stands at some place
pub place_of : (xs : List ℕ) (v : ℕ) → IsTrue (has xs v) → (k : ℕ) × (k < length xs) × (get_or xs k 0 ≡ v)
place_of [] v h = absurd (false≢true h)
place_of (x ∷ xs) v h =
    elim (or_cases (x == v) (has xs v) h) [
      | inl same ↦ (0, omega arith, eqb-true x v same)
      | inr later ↦ let p = place_of xs v later in (suc p.0, omega (arith, p.1), p.2)
    ]

-- the test the other way round
pub has-turned : (xs : List ℕ) (v : ℕ) → list_any (eqb v) xs ≡ has xs v
has-turned [] v = refl
has-turned (x ∷ xs) v = rw (has-turned xs v) (ap (λ b. b || has xs v) (eqb_comm v x))
  where
    eqb_comm : (a b : ℕ) → eqb a b ≡ eqb b a
    eqb_comm a b = grind (arith, nat_tests)

-- different numbers below a count are no more than it
pub AllApart-few : (xs : List ℕ) (n : ℕ) → AllApart xs → All (λ v. v < n) xs → length xs ≤ n
unfolding IsDistinct
AllApart-few xs n apart below =
    length-le_from_distinct_below xs n (distinct xs apart) (λ q h. at_member (λ v. v < n) xs q (recursion_from_All _ xs below) (sym (has-turned xs q) ∙ h))
  where
    apart_from : (x : ℕ) (ys : List ℕ) → IsFalse (has ys x) → AllByRecursion (λ y. eqb x y ≡ false) ys
    apart_from x [] h = tt
    apart_from x (y ∷ ys) h =
        let p = or_parts (y == x) (has ys x) h in
        (ne_eqb x y (λ same. false≢true (sym p.0 ∙ eq-eqb y x (sym same))), apart_from x ys p.1)

    distinct : (ys : List ℕ) → AllApart ys → IsDistinct eqb ys
    distinct [] h = tt
    distinct (y ∷ ys) h = (apart_from y ys h.0, distinct ys h.1)

-- Sums over lists and over vertices.
use Rattle.std.proofs.Common.{◌≡◌, ◌≢◌, ℕ, zero, suc, ◌+◌, ◌*◌, ◌≤◌, ◌<◌, Bool, true, false, cond, ◌||◌, List, [], ◌∷◌, length, ◌⊎◌, inl, inr, refl, sym, ◌∙◌, arith}
use Rattle.std.specs.Prelude.{◌==◌, if◌then◌else◌, IsTrue, IsFalse}
use Rattle.std.specs.List.{AllByRecursion}
use Rattle.std.proofs.lemmas.Bool.{cases_lt, ne_eqb, eqb-true, eq-eqb, cond-true, cond-false, false≢true}
use Rattle.std.proofs.lemmas.List.Elements.{recursion_from_All}
use Rattle.st_model.specs.Lists.{has, total, sum_to}
use Rattle.st_model.specs.Network.{IsVertex}
use Rattle.st_model.specs.Branch.{IsVertexSet}
use Rattle.st_model.specs.VertexSet.{AllApart}
use Rattle.st_model.proofs.Marked.{AllApart-from_increasing}
use Rattle.st_model.proofs.Sums.{sum_to_same, sum_to_le, sum_to-add, sum_to_none}

-- a sum of sums is the sum of the sums
pub total-add : {X : Type 0} (f g : X → ℕ) (xs : List X) → total (λ x. f x + g x) xs ≡ total f xs + total g xs
total-add f g [] = refl
total-add f g (x ∷ xs) = omega (arith, total-add f g xs)

-- a term is added where the test holds, and else left out
pub total-split : {X : Type 0} (test : X → Bool) (f : X → ℕ) (xs : List X) → total (λ x. if test x then f x else 0) xs + total (λ x. if test x then 0 else f x) xs ≡ total f xs
total-split test f [] = refl
total-split test f (x ∷ xs) = step (test x) _ _ _ (total-split test f xs)
  where
    step : (b : Bool) (left right whole : ℕ) → left + right ≡ whole → (cond b (f x) 0 + left) + (cond b 0 (f x) + right) ≡ f x + whole
    step true left right whole h = omega arith
    step false left right whole h = omega arith

-- one term alone is at most the sum
pub sum_to-one : (f : ℕ → ℕ) (n q : ℕ) → IsVertex n q → f q ≤ sum_to f n
sum_to-one f zero q h = absurd (omega (arith, h.0, h.1))
sum_to-one f (suc n) q h = step (cases_lt q (suc n)) (λ below. sum_to-one f n q (h.0, omega arith))
  where
    step : (q < suc n) ⊎ (suc n ≤ q) → (q < suc n → f q ≤ sum_to f n) → f q ≤ sum_to f n + f (suc n)
    step (inl below) before = omega (arith, before below)
    step (inr above) before = let last : q ≡ suc n = omega (arith, h.1) in rw last (omega arith)

-- the sum over a list where each element is at most z
pub total-bound : {X : Type 0} (f : X → ℕ) (z : ℕ) (xs : List X) → AllByRecursion (λ x. f x ≤ z) xs → total f xs ≤ length xs * z
total-bound f z [] h = omega arith
total-bound f z (x ∷ xs) h = omega (arith, h.0, total-bound f z xs h.1)

-- the sum of terms that are 0
sum_to-none : (f : ℕ → ℕ) (n : ℕ) → ((v : ℕ) → IsVertex n v → f v ≡ 0) → sum_to f n ≡ 0
sum_to-none f n none = sum_to_same f (λ _. 0) n (λ v low high. none v (low, high)) ∙ sum_to_none n

-- the sum of terms that are 0 but at q
pub sum_to-at : (f : ℕ → ℕ) (n q : ℕ) → IsVertex n q → ((v : ℕ) → IsVertex n v → v ≢ q → f v ≡ 0) → sum_to f n ≡ f q
sum_to-at f zero q h others = absurd (omega (arith, h.0, h.1))
sum_to-at f (suc n) q h others = step (cases_lt q (suc n)) (λ below. sum_to-at f n q (h.0, omega arith) (λ v in_range. others v (in_range.0, omega (arith, in_range.1))))
  where
    step : (q < suc n) ⊎ (suc n ≤ q) → (q < suc n → sum_to f n ≡ f q) → sum_to f n + f (suc n) ≡ f q
    step (inl below) before = omega (arith, before below, others (suc n) (omega arith, omega arith) (omega arith))
    step (inr above) before =
        let last : q ≡ suc n = omega (arith, h.1) in
        let rest = sum_to-none f n (λ v in_range. others v (in_range.0, omega (arith, in_range.1)) (omega (arith, in_range.1))) in
        rw last (omega (arith, rest))

-- where nothing stands twice and all is in range, a sum over a list is the sum over the vertices that it has
total-members : (f : ℕ → ℕ) (n : ℕ) (xs : List ℕ) → AllByRecursion (IsVertex n) xs → AllApart xs → total f xs ≡ sum_to (λ v. if has xs v then f v else 0) n
total-members f n [] h apart = sym (sum_to_none n)
total-members f n (x ∷ xs) h apart =
    let first : ℕ → ℕ = λ v. if x == v then f v else 0 in
    let rest : ℕ → ℕ = λ v. if has xs v then f v else 0 in
    let whole : ℕ → ℕ = λ v. if (x == v) || has xs v then f v else 0 in
    let at_x = sum_to-at first n x h.0 (λ v in_range other. cond-false (x == v) (f v) 0 (ne_eqb x v (λ same. other (sym same)))) in
    let less = sum_to_le whole (λ v. first v + rest v) n (λ v low high. below (x == v) (has xs v) (f v)) in
    let more = sum_to_le (λ v. first v + rest v) whole n (λ v low high. above (x == v) (has xs v) (f v) (λ same. rw (← eqb-true x v same) apart.0)) in
    omega (arith, total-members f n xs h.1 apart.1, at_x, cond-true (x == x) (f x) 0 (eq-eqb x x refl), sum_to-add first rest n, less, more)
  where
    below : (a b : Bool) (y : ℕ) → cond (a || b) y 0 ≤ cond a y 0 + cond b y 0
    below true b y = omega arith
    below false b y = omega arith

    above : (a b : Bool) (y : ℕ) → (IsTrue a → IsFalse b) → cond a y 0 + cond b y 0 ≤ cond (a || b) y 0
    above true true y h = absurd (false≢true (sym (h refl)))
    above true false y h = omega arith
    above false b y h = omega arith

-- a sum over a set of vertices is the sum over the vertices that it has
pub total-IsVertexSet : (f : ℕ → ℕ) (n : ℕ) (xs : List ℕ) → IsVertexSet n xs → total f xs ≡ sum_to (λ v. if has xs v then f v else 0) n
total-IsVertexSet f n xs h =
    total-members f n xs (recursion_from_All _ xs h.in_range) (AllApart-from_increasing xs h.ascending)

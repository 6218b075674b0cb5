-- Membership and sums, as tests and numbers that compute.
use Rattle.std.specs.Prelude.{ℕ, zero, suc, ◌+◌, ◌==◌, Bool, List, [], ◌∷◌, ◌++◌}
use Rattle.std.specs.List.{list_any}

-- whether v is in the list
abbrev pub has : List ℕ → ℕ → Bool
has xs v = list_any (λ x. x == v) xs

-- the sum of f over a list
abbrev pub total : {X : Type 0} → (X → ℕ) → List X → ℕ
total f [] = 0
total f (x ∷ xs) = f x + total f xs

-- the sum of f over 1 to n
abbrev pub sum_to : (ℕ → ℕ) → ℕ → ℕ
sum_to f zero = 0
sum_to f (suc n) = sum_to f n + f (suc n)

-- the numbers from 1 to n
abbrev pub up_to : ℕ → List ℕ
up_to zero = []
up_to (suc n) = up_to n ++ suc n ∷ []

-- The least of a value and what was offered against it.
use Rattle.std.specs.Prelude.{ℕ, min, List, [], ◌∷◌}

-- the least of the start and the offers
abbrev pub least_of : ℕ → List ℕ → ℕ
least_of start [] = start
least_of start (x ∷ xs) = min x (least_of start xs)

-- The pieces of some bytes.
use Rattle.std.specs.Prelude.{ℕ, ◌==◌, List, [], ◌∷◌, Option, Some, None, option_map, if◌then◌else◌}

-- what stands before the first byte d, and what stands after it
abbrev pub cut : ℕ → List ℕ → Option (List ℕ × List ℕ)
cut d [] = None
cut d (b ∷ bs) = if b == d then Some ([], bs) else option_map (λ x. (b ∷ x.0, x.1)) (cut d bs)

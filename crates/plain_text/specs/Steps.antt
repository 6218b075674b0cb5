-- Steps of reading, one after another.
use Rattle.std.specs.Prelude.{ℕ, ◌+◌, ◌-◌, ◌*◌, ◌&&◌, List, [], ◌∷◌, Option, Some, None, option_and_then, nat_le, if◌then◌else◌}
use Rattle.std.specs.Char.{is_ascii_digit}

-- a step, and one from what it gave
infixl 10 ◌>>=◌
abbrev pub ◌>>=◌ : {A B : Type 0} → Option A → (A → Option B) → Option B
o >>= f = option_and_then f o

-- The digits of n and then these, read one by one up to the limit. A helper's clause cites this, and no public one.
abbrev pub value_by : ℕ → ℕ → List ℕ → Option ℕ
value_by limit n [] = Some n
value_by limit n (c ∷ cs) = if is_ascii_digit c && nat_le (10 * n + (c - 48)) limit then value_by limit (10 * n + (c - 48)) cs else None

-- What a word says as a number, in decimal digits.
use Rattle.std.specs.Prelude.{ℕ, ◌+◌, ◌-◌, ◌*◌, ◌&&◌, ◌==◌, not, Bool, false, List, [], ◌∷◌, length, Option, Some, None, nat_lt, nat_le, if◌then◌else◌}
use Rattle.std.specs.Char.{is_ascii_digit}
use Rattle.std.specs.List.{list_all}
use Rattle.plain_text.specs.Steps.{◌>>=◌}

-- one or more decimal digits
abbrev pub is_number : List ℕ → Bool
is_number word = not (length word == 0) && list_all is_ascii_digit word

-- the number that has the digits of n and then these
abbrev pub value_after : ℕ → List ℕ → ℕ
value_after n [] = n
value_after n (c ∷ cs) = value_after (10 * n + (c - 48)) cs

-- the number that has these digits, however many there are
abbrev pub value : List ℕ → ℕ
value word = value_after 0 word

-- the number that a word says with or without leading zeros, if it is at most the limit
unfoldable pub number_within : ℕ → List ℕ → Option ℕ
number_within limit word = if is_number word && nat_le (value word) limit then Some (value word) else None

-- whether digits stand after a first 0
abbrev pub has_leading_zero : List ℕ → Bool
has_leading_zero [] = false
has_leading_zero (c ∷ []) = false
has_leading_zero (c ∷ d ∷ cs) = c == 48

-- the number from low to high that is written as this word
unfoldable pub number : ℕ → ℕ → List ℕ → Option ℕ
number low high word = if has_leading_zero word then None else (number_within high word >>= λ n. if nat_lt n low then None else Some n)

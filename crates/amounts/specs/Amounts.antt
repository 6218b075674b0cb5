-- What a word says as an amount, in millionths, and why it says none.
use Rattle.std.specs.Prelude.{ℕ, zero, suc, ◌+◌, ◌-◌, ◌*◌, ◌^◌, ◌&&◌, ◌==◌, Bool, not, List, [], ◌∷◌, drop, slice_index_or, Result, Ok, Err, unwrap_or, nat_le, if◌then◌else◌}
use Rattle.std.specs.List.{list_all}
use Rattle.std.specs.Char.{is_ascii_digit}
use Rattle.plain_text.specs.Numbers.{is_number, value}
use Rattle.plain_text.specs.Pieces.{cut}
use Rattle.amounts.specs.declared.reading.NoAmount.{NoAmount}
use Rattle.amounts.specs.declared.reading.NoAmount.TheVariants.{NotDigits, TooFine, TooLarge}

-- the whole part of an amount, and what stands after its point
abbrev pub parts : List ℕ → List ℕ × List ℕ
parts word = unwrap_or (cut 46 word) (word, [])

-- digits, and then, if there is a point, any number of digits after it
abbrev pub is_amount : List ℕ → Bool
is_amount word = is_number (parts word).0 && list_all is_ascii_digit (parts word).1

-- a digit of what stands after the point, the first at place 0; where no digit stands it is 0
abbrev pub digit_at : List ℕ → ℕ → ℕ
digit_at fraction place = slice_index_or fraction place 48 - 48

-- the first so many digits after the point, as a number; where no digit stands it is 0
abbrev pub first_digits : ℕ → List ℕ → ℕ
first_digits zero fraction = 0
first_digits (suc places) [] = 0
first_digits (suc places) (c ∷ cs) = (c - 48) * 10 ^ places + first_digits places cs

-- whether nothing but zeros stands past the sixth digit after the point
abbrev pub ends_in_time : List ℕ → Bool
ends_in_time word = list_all (λ c. c == 48) (drop 6 (parts word).1)

-- the whole part that an amount says
abbrev pub whole_part : List ℕ → ℕ
whole_part word = value (parts word).0

-- how many millionths an amount says that ends in time
abbrev pub millionths : List ℕ → ℕ
millionths word = whole_part word * 1000000 + first_digits 6 (parts word).1

-- the millionths that a word says, where its whole part is at most a number; or the first reason why it says none
unfoldable pub amount_said : ℕ → List ℕ → Result ℕ NoAmount
amount_said most word =
    if not (is_amount word) then Err NotDigits else
    if not (ends_in_time word) then Err TooFine else
    if not (nat_le (whole_part word) most) then Err TooLarge else
    Ok (millionths word)

-- How a number of a file's unit is written.
use Rattle.std.specs.Prelude.{ℕ, zero, suc, ◌/◌, ◌%◌, ◌^◌, ◌==◌, List, [], ◌∷◌, ◌++◌, if◌then◌else◌}
use Rattle.std.specs.Fmt.{decimal}
use Rattle.amounts.specs.declared.scale.Scale.{Scale}
use Rattle.amounts.specs.declared.scale.Scale.TheVariants.{Whole, Millionths}

-- the digit of this unit, where anything is left; what is left is below ten units
abbrev pub digit : ℕ → ℕ → List ℕ
digit unit rest = if rest == 0 then [] else decimal (rest / unit)

-- so many digits, as far as anything is left: no zeros stand at the end
abbrev pub decimals : ℕ → ℕ → List ℕ
decimals zero rest = []
decimals (suc places) rest = digit (10 ^ places) rest ++ decimals places (rest % 10 ^ places)

-- a point and the decimals of so many millionths, where there are any
abbrev pub after_point : ℕ → List ℕ
after_point millionths = if millionths == 0 then [] else 46 ∷ decimals 6 millionths

-- a number of this unit, in wholes
abbrev pub amount_text : ℕ → Scale → List ℕ
amount_text number Whole = decimal number
amount_text number Millionths = decimal (number / 1000000) ++ after_point (number % 1000000)

-- Amounts that are written are read as the numbers that they were.
use Rattle.std.specs.Prelude.{◌≡◌, ℕ, ◌*◌, ◌^◌, ◌<◌, IsTrue}
use Rattle.amounts.specs.declared.scale.Scale.{Scale}
use Rattle.amounts.specs.declared.scale.Scale.TheVariants.{Whole, Millionths}
use Rattle.amounts.specs.Amounts.{is_amount, ends_in_time, millionths}
use Rattle.amounts.specs.Text.{amount_text}

-- how many millionths the unit of a scale has
abbrev pub unit : Scale → ℕ
unit Whole = 1000000
unit Millionths = 1

-- the text of the number is an amount, and says this number of units
pub record IsReadBack (number : ℕ) (scale : Scale) : Type 0 where
  pub amount : IsTrue (is_amount (amount_text number scale))
  pub in_time : IsTrue (ends_in_time (amount_text number scale))
  pub same : millionths (amount_text number scale) ≡ number * unit scale

abbrev pub TextsAreRead : Type 0
TextsAreRead = (number : ℕ) (scale : Scale) → number < 2 ^ 64 → IsReadBack number scale

-- no two numbers have one text at one scale
abbrev pub TextsDiffer : Type 0
TextsDiffer = (number other : ℕ) (scale : Scale) → number < 2 ^ 64 → other < 2 ^ 64 → amount_text number scale ≡ amount_text other scale → number ≡ other

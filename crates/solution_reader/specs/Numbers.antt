-- What a word of a solution says as a vertex, a count or a primal.
use Rattle.std.specs.Prelude.{ℕ, ◌&&◌, Bool, List, Option, Some, None, nat_le, if◌then◌else◌}
use Rattle.std.specs.Result.{result_ok}
use Rattle.plain_text.specs.Numbers.{is_number, value}
use Rattle.amounts.specs.Amounts.{amount_said}
use Rattle.solution_reader.specs.declared.reason.SolReason.{SolReason}
use Rattle.solution_reader.specs.declared.reason.SolReason.TheVariants.{BadNumber}

-- whether a word is a number of digits, and at most the limit
abbrev pub is_within : ℕ → List ℕ → Bool
is_within limit word = is_number word && nat_le (value word) limit

-- why a word is no vertex or count up to a limit
abbrev pub number_reason : ℕ → List ℕ → Option SolReason
number_reason limit word = if is_within limit word then None else Some BadNumber

-- the millionths that a word says as a primal, if it is an amount with a whole part below 2^64 and no digit other than 0 past the sixth decimal
unfoldable pub primal_said : List ℕ → Option ℕ
primal_said word = result_ok (amount_said 18446744073709551615 word)

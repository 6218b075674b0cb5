-- Why a word is no count, no vertex or no amount.
use Rattle.std.specs.Prelude.{ℕ, ◌&&◌, ◌==◌, not, if◌then◌else◌, List, [], ◌∷◌, ◌++◌, nat_le}
use Rattle.plain_text.specs.Numbers.{is_number, value}
use Rattle.amounts.specs.Amounts.{is_amount, ends_in_time, whole_part}
use Rattle.stp_reader.specs.declared.reason.Reason.{Reason}
use Rattle.stp_reader.specs.declared.reason.Reason.TheVariants.{BadNumber, Fraction, OutOfRange, VertexRange, NoVertices}
use Rattle.stp_reader.specs.Reason.{when}

-- why a word is no count up to a limit
abbrev pub count_reasons : ℕ → List ℕ → List Reason
count_reasons limit word = if is_number word then when (not (nat_le (value word) limit)) OutOfRange else BadNumber ∷ []

-- why a word is no number of vertices
abbrev pub nodes_reasons : List ℕ → List Reason
nodes_reasons word = count_reasons 1000000 word ++ when (is_number word && (value word == 0)) NoVertices

-- why a word is no vertex from 1 to n
abbrev pub vertex_reasons : ℕ → List ℕ → List Reason
vertex_reasons n word = if is_number word then when (not (nat_le 1 (value word) && nat_le (value word) n)) VertexRange else BadNumber ∷ []

-- why a word is no cost or prize: six decimals at most tell something, and its whole part is at most 10^12
abbrev pub amount_reasons : List ℕ → List Reason
amount_reasons word = if is_amount word
    then when (not (ends_in_time word)) Fraction ++ when (not (nat_le (whole_part word) 1000000000000)) OutOfRange
    else BadNumber ∷ []

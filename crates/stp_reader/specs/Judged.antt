-- What a word says, or the least reason why it says nothing. Helpers' clauses cite this, and no public one.
use Rattle.std.specs.Prelude.{ℕ, ◌&&◌, ◌==◌, if◌then◌else◌, List, ◌∷◌, Result, Ok, Err, nat_le}
use Rattle.std.specs.List.{list_any}
use Rattle.stp_reader.specs.declared.reason.Reason.{Reason}
use Rattle.stp_reader.specs.declared.reason.Reason.TheVariants.{BadNumber, Fraction, OutOfRange, VertexRange, NoVertices, ScaleRange}
use Rattle.stp_reader.specs.Reason.{lesser}
use Rattle.plain_text.specs.Numbers.{is_number, value}
use Rattle.amounts.specs.Amounts.{is_amount, ends_in_time, whole_part, millionths}
use Rattle.stp_reader.specs.Unit.{is_fractional, is_large}

-- what is said, and what is said next of it; a reason of the first ends it
infixl 10 ◌>>=◌
abbrev pub ◌>>=◌ : {A B : Type 0} → Result A Reason → (A → Result B Reason) → Result B Reason
Ok x >>= f = f x
Err r >>= f = Err r

-- what two parts of a line say, or the least of their reasons
abbrev pub both : {A B : Type 0} → Result A Reason → Result B Reason → Result (A × B) Reason
both (Ok x) (Ok y) = Ok (x, y)
both (Ok x) (Err q) = Err q
both (Err r) (Ok y) = Err r
both (Err r) (Err q) = Err (lesser r q)

-- a number with this value is at most the limit
abbrev pub within : ℕ → ℕ → Result ℕ Reason
within limit n = if nat_le n limit then Ok n else Err OutOfRange

-- a count that is at most the limit
unfoldable pub count : ℕ → List ℕ → Result ℕ Reason
count limit word = if is_number word then within limit (value word) else Err BadNumber

-- a number of vertices
unfoldable pub nodes : List ℕ → Result ℕ Reason
nodes word = count 1000000 word >>= λ n. if n == 0 then Err NoVertices else Ok n

-- a vertex from 1 to n
unfoldable pub vertex : ℕ → List ℕ → Result ℕ Reason
vertex n word = if is_number word then (if nat_le 1 (value word) && nat_le (value word) n then Ok (value word) else Err VertexRange) else Err BadNumber

-- a cost or a prize, in millionths
unfoldable pub amount : List ℕ → Result ℕ Reason
amount word =
    if is_amount word
    then (if ends_in_time word then (if nat_le (whole_part word) 1000000000000 then Ok (millionths word) else Err OutOfRange) else Err Fraction)
    else Err BadNumber

-- what was said, where this amount may stand after those
abbrev pub scaled : {A : Type 0} → List ℕ → ℕ → A → Result A Reason
scaled before x said = if list_any is_fractional (x ∷ before) && list_any is_large (x ∷ before) then Err ScaleRange else Ok said

-- The numbers and names of what can be wrong with a line of a solution file.
use Rattle.std.specs.Prelude.{ℕ, Bool, List, Option, Some, None, if◌then◌else◌, codes}
use Rattle.solution_reader.specs.declared.reason.SolReason.{SolReason}
use Rattle.solution_reader.specs.declared.reason.SolReason.TheVariants.{NoHeader, BadLine, RepeatedSection, BadNumber, CountMismatch, Unclosed, NoFinal}

abbrev pub code_of : SolReason → ℕ
code_of NoHeader = 1
code_of BadLine = 2
code_of RepeatedSection = 3
code_of BadNumber = 4
code_of CountMismatch = 5
code_of Unclosed = 6
code_of NoFinal = 7

abbrev pub name_of : SolReason → List ℕ
name_of NoHeader = codes "NoHeader"
name_of BadLine = codes "BadLine"
name_of RepeatedSection = codes "RepeatedSection"
name_of BadNumber = codes "BadNumber"
name_of CountMismatch = codes "CountMismatch"
name_of Unclosed = codes "Unclosed"
name_of NoFinal = codes "NoFinal"

-- this reason, where the test is true
abbrev pub when : Bool → SolReason → Option SolReason
when test r = if test then Some r else None

-- the first reason of two, if there is one
abbrev pub or_else : Option SolReason → Option SolReason → Option SolReason
or_else None o = o
or_else (Some r) o = Some r

-- The numbers and names of what can be wrong with a line of an STP file, and the least of several.
use Rattle.std.specs.Prelude.{ℕ, Bool, List, [], ◌∷◌, Option, Some, None, nat_le, if◌then◌else◌, codes}
use Rattle.stp_reader.specs.declared.reason.Reason.{Reason}
use Rattle.stp_reader.specs.declared.reason.Reason.TheVariants.{NoHeader, BadLine, UnknownSection, RepeatedSection, GraphFirst, BadNumber, Fraction, OutOfRange, VertexRange, CountMismatch, RepeatedPrize, RootNotTerminal, Directed, Unclosed, NoGraph, NoTerminals, NoVertices, ScaleRange, NoRoot}

abbrev pub code_of : Reason → ℕ
code_of NoHeader = 1
code_of BadLine = 2
code_of UnknownSection = 3
code_of RepeatedSection = 4
code_of GraphFirst = 5
code_of BadNumber = 6
code_of Fraction = 7
code_of OutOfRange = 8
code_of VertexRange = 9
code_of CountMismatch = 10
code_of RepeatedPrize = 11
code_of RootNotTerminal = 12
code_of Directed = 13
code_of Unclosed = 14
code_of NoGraph = 15
code_of NoTerminals = 16
code_of NoVertices = 17
code_of ScaleRange = 18
code_of NoRoot = 19

abbrev pub name_of : Reason → List ℕ
name_of NoHeader = codes "NoHeader"
name_of BadLine = codes "BadLine"
name_of UnknownSection = codes "UnknownSection"
name_of RepeatedSection = codes "RepeatedSection"
name_of GraphFirst = codes "GraphFirst"
name_of BadNumber = codes "BadNumber"
name_of Fraction = codes "Fraction"
name_of OutOfRange = codes "OutOfRange"
name_of VertexRange = codes "VertexRange"
name_of CountMismatch = codes "CountMismatch"
name_of RepeatedPrize = codes "RepeatedPrize"
name_of RootNotTerminal = codes "RootNotTerminal"
name_of Directed = codes "Directed"
name_of Unclosed = codes "Unclosed"
name_of NoGraph = codes "NoGraph"
name_of NoTerminals = codes "NoTerminals"
name_of NoVertices = codes "NoVertices"
name_of ScaleRange = codes "ScaleRange"
name_of NoRoot = codes "NoRoot"

-- the reason with the lower number
abbrev pub lesser : Reason → Reason → Reason
lesser r q = if nat_le (code_of r) (code_of q) then r else q

-- the least reason of either, if there is one
abbrev pub lesser_of : Option Reason → Option Reason → Option Reason
lesser_of None o = o
lesser_of (Some r) None = Some r
lesser_of (Some r) (Some q) = Some (lesser r q)

-- the least of some reasons, if there are any
abbrev pub least : List Reason → Option Reason
least [] = None
least (r ∷ rs) = lesser_of (Some r) (least rs)

-- this reason, where the test is true
abbrev pub when : Bool → Reason → List Reason
when test r = if test then r ∷ [] else []

-- The text of an instance as an STP file.
use Rattle.std.specs.Prelude.{ℕ, ◌^◌, ◌≤◌, Bool, IsTrue, nat_lt, List, [], ◌∷◌, ◌++◌, length, map, filter, All, codes}
use Rattle.std.specs.Fmt.{decimal}
use Rattle.std.specs.List.{flat_map, join_with_byte, list_any}
use Rattle.plain_text.specs.Lines.{ended}
use Rattle.amounts.specs.declared.scale.Scale.{Scale}
use Rattle.amounts.specs.declared.scale.Scale.TheVariants.{Whole, Millionths}
use Rattle.amounts.specs.Text.{amount_text}
use Rattle.st_model.specs.declared.link.Link.{Link}
use Rattle.st_model.specs.declared.need.Need.{Need}
use Rattle.st_model.specs.declared.need.Need.TheVariants.{Required, Pays}
use Rattle.st_model.specs.Lists.{up_to}
use Rattle.st_model.specs.Network.{Network, need_of, is_needed, prize}
use Rattle.stp_reader.specs.Unit.{is_fractional}

-- words with one space between each two, and the end of a line
abbrev pub line_of : List (List ℕ) → List ℕ
line_of words = ended (join_with_byte 32 words)

-- the lines of these words
abbrev pub text_of : List (List (List ℕ)) → List ℕ
text_of lines = flat_map line_of lines

abbrev pub header : List (List ℕ)
header = codes "33D32945" ∷ codes "STP" ∷ codes "File," ∷ codes "STP" ∷ codes "Format" ∷ codes "Version" ∷ codes "1.0" ∷ []

-- a keyword and a number
abbrev pub number_line : List ℕ → ℕ → List (List ℕ)
number_line keyword n = keyword ∷ decimal n ∷ []

abbrev pub section_line : List ℕ → List (List ℕ)
section_line name = codes "SECTION" ∷ name ∷ []

abbrev pub end_line : List (List ℕ)
end_line = codes "END" ∷ []

-- a link's ends, the lower first, and its cost, which counts units of this scale
abbrev pub link_line : Link → Scale → List (List ℕ)
link_line l scale = codes "E" ∷ decimal l.a ∷ decimal l.b ∷ amount_text l.cost scale ∷ []

-- what a vertex needs
abbrev pub need_line_of : ℕ → Need → Scale → List (List ℕ)
need_line_of v Required scale = codes "T" ∷ decimal v ∷ []
need_line_of v (Pays p) scale = codes "TP" ∷ decimal v ∷ amount_text p scale ∷ []

abbrev pub need_line : ℕ × Need → Scale → List (List ℕ)
need_line entry scale = need_line_of entry.0 entry.1 scale

-- the section of n vertices and these links
abbrev pub graph_lines : ℕ → List Link → Scale → List (List (List ℕ))
graph_lines n links scale = section_line (codes "Graph") ∷ number_line (codes "Nodes") n ∷ number_line (codes "Edges") (length links) ∷ map (λ l. link_line l scale) links ++ end_line ∷ []

-- the section of these needs
abbrev pub terminal_lines : List (ℕ × Need) → Scale → List (List (List ℕ))
terminal_lines needs scale = section_line (codes "Terminals") ∷ number_line (codes "Terminals") (length needs) ∷ map (λ entry. need_line entry scale) needs ++ end_line ∷ []

-- whether leaving it out costs anything
abbrev pub is_paying : Need → Bool
is_paying need = nat_lt 0 (prize need)

-- of the first k vertices those whose need passes the test, ascending, each with its need
abbrev pub those_of : Network → (Need → Bool) → ℕ → List (ℕ × Need)
those_of I test k = map (λ v. (v, need_of I v)) (filter (λ v. test (need_of I v)) (up_to k))

-- the first vertex with no prize, where there is nothing else to say
abbrev pub at_least_one : List (ℕ × Need) → List (ℕ × Need)
at_least_one [] = (1, Pays 0) ∷ []
at_least_one (e ∷ es) = e ∷ es

-- all required vertices, and then all that pay
abbrev pub written_needs : Network → List (ℕ × Need)
written_needs I = at_least_one (those_of I is_needed I.n ++ those_of I is_paying I.n)

-- all lines of the text, each as its words
abbrev pub stp_lines : Network → Scale → List (List (List ℕ))
stp_lines I scale = header ∷ graph_lines I.n I.links scale ++ (terminal_lines (written_needs I) scale ++ (codes "EOF" ∷ []) ∷ [])

-- the whole text, where costs and prizes count units of this scale
unfoldable pub stp_text : Network → Scale → List ℕ
stp_text I scale = text_of (stp_lines I scale)

-- all costs and prizes; a vertex that is required has none, which counts as 0
abbrev pub costs_and_prizes : Network → List ℕ
costs_and_prizes I = map (λ l. l.cost) I.links ++ map prize I.needs

-- A text says in which unit it counts by its amounts alone: in millionths where one of them has decimals, and else in wholes.
-- Amounts in wholes have none, so nothing is asked of them.
abbrev pub IsTold : Network → Scale → Type 0
IsTold I Whole = Unit {0}
IsTold I Millionths = IsTrue (list_any is_fractional (costs_and_prizes I))

-- it fits into a file at this scale: not too many links, no cost or prize above 10^12 units, and its amounts tell the unit
pub record FitsFile (I : Network) (scale : Scale) : Type 0 where
  pub few_links : length I.links ≤ 4000000
  pub low_costs : All (λ l. l.cost ≤ 10 ^ 12) I.links
  pub low_prizes : All (λ need. prize need ≤ 10 ^ 12) I.needs
  pub told : IsTold I scale

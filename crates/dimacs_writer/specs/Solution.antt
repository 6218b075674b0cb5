-- The text of a solution, section by section, and which vertices and edges of a tree stand in it.
use Rattle.std.specs.Prelude.{◌≡◌, ◌↔◌, ℕ, ◌==◌, ◌||◌, nat_lt, Bool, true, false, if◌then◌else◌, List, [], ◌∷◌, ◌++◌, length, map, Contains, codes}
use Rattle.std.specs.Fmt.{decimal}
use Rattle.std.specs.List.{flat_map}
use Rattle.std.specs.List.Sorted.{IsStrictlyIncreasing, IsStrictlySortedBy}
use Rattle.std.specs.declared.cmp.Ordering.{Ordering}
use Rattle.std.specs.Ordering.{nat_cmp, ordering_then}
use Rattle.st_model.specs.declared.tree.Tree.{Tree}
use Rattle.st_model.specs.Arborescence.{reached}
use Rattle.st_model.specs.Lists.{has}
use Rattle.st_model.specs.Regrown.{unordered}
use Rattle.plain_text.specs.Lines.{ended}
use Rattle.amounts.specs.declared.scale.Scale.{Scale}
use Rattle.amounts.specs.Text.{amount_text}

-- a keyword and a number
abbrev pub number_line : List ℕ → ℕ → List ℕ
number_line keyword n = keyword ++ 32 ∷ decimal n

-- a keyword and an amount, a number of this unit
abbrev pub amount_line : List ℕ → ℕ → Scale → List ℕ
amount_line keyword x scale = keyword ++ 32 ∷ amount_text x scale

-- a keyword and a text in quotes
abbrev pub quoted_line : List ℕ → List ℕ → List ℕ
quoted_line keyword text = keyword ++ 32 ∷ 34 ∷ text ++ 34 ∷ []

-- how a byte of the name is written: the quote and all below the space as `_`
abbrev pub name_byte : ℕ → ℕ
name_byte b = if (b == 34) || nat_lt b 32 then 95 else b

-- `optimal` where the dual has reached the primal
abbrev pub remark : ℕ → ℕ → List ℕ
remark dual primal = if dual == primal then codes "optimal" else codes "budget"

-- what stands after the name in its section
abbrev pub remark_lines : ℕ → ℕ → List (List ℕ)
remark_lines dual primal = quoted_line (codes "Program") (codes "steiner") ∷ quoted_line (codes "Remark") (remark dual primal) ∷ codes "END" ∷ []

abbrev pub comment_lines : List ℕ → ℕ → ℕ → List (List ℕ)
comment_lines name dual primal = codes "SECTION Comment" ∷ quoted_line (codes "Name") (map name_byte name) ∷ remark_lines dual primal

-- the primal, at time 0
abbrev pub solutions_lines : ℕ → Scale → List (List ℕ)
solutions_lines primal scale = codes "SECTION Solutions" ∷ amount_line (codes "Solution 0") primal scale ∷ codes "END" ∷ []

abbrev pub run_lines : ℕ → ℕ → ℕ → Scale → List (List ℕ)
run_lines workers dual primal scale = codes "SECTION Run" ∷ number_line (codes "Threads") workers ∷ codes "Time 0" ∷ amount_line (codes "Dual") dual scale ∷ amount_line (codes "Primal") primal scale ∷ codes "END" ∷ []

abbrev pub vertex_line : ℕ → List ℕ
vertex_line v = number_line (codes "V") v

abbrev pub edge_line : ℕ × ℕ → List ℕ
edge_line edge = number_line (number_line (codes "E") edge.0) edge.1

-- how many vertices and edges there are, and each of them
abbrev pub tree_lines : List ℕ → List (ℕ × ℕ) → List (List ℕ)
tree_lines vertices edges = codes "SECTION Finalsolution" ∷ number_line (codes "Vertices") (length vertices) ∷ map vertex_line vertices ++ number_line (codes "Edges") (length edges) ∷ map edge_line edges ++ codes "END" ∷ []

abbrev pub header : List ℕ
header = codes "33D32945 STP File, STP Format Version 1.0"

-- all of the text, line by line; the dual and the primal are numbers of this unit
unfoldable pub solution_text_of : (name : List ℕ) (workers : ℕ) (vertices : List ℕ) (edges : List (ℕ × ℕ)) (dual primal : ℕ) (scale : Scale) → List ℕ
solution_text_of name workers vertices edges dual primal scale = flat_map ended (header ∷ comment_lines name dual primal ++ solutions_lines primal scale ++ run_lines workers dual primal scale ++ tree_lines vertices edges ++ codes "EOF" ∷ [])

-- the vertices that the tree reaches, ascending, each once
pub record AreVertices (t : Tree) (vertices : List ℕ) : Type 0 where
  pub ascending : IsStrictlyIncreasing vertices
  pub same : (v : ℕ) → has vertices v ≡ has (reached t) v

-- edges are compared by their first ends, and then by their second ends
abbrev pub edge_order : ℕ × ℕ → ℕ × ℕ → Ordering
edge_order x y = ordering_then (nat_cmp x.0 y.0) (nat_cmp x.1 y.1)

-- the ends of an arc as they are written: as it goes where the instance is directed, else the lower one first
abbrev pub ends_written : Bool → ℕ × ℕ → ℕ × ℕ
ends_written true arc = arc
ends_written false arc = unordered arc

-- the ends of the tree's arcs, as they are written, ascending, each once
pub record AreEdgesIn (directed : Bool) (t : Tree) (edges : List (ℕ × ℕ)) : Type 0 where
  pub ascending : IsStrictlySortedBy edge_order edges
  pub same : (edge : ℕ × ℕ) → Contains edges edge ↔ Contains (map (ends_written directed) t.arcs) edge

-- the bytes are the text of the tree's vertices and edges, where the instance is directed, or where it isn't
pub record IsSolutionTextIn (directed : Bool) (name : List ℕ) (workers : ℕ) (t : Tree) (dual primal : ℕ) (scale : Scale) (bytes : List ℕ) : Type 0 where
  pub vertices : List ℕ
  pub edges : List (ℕ × ℕ)
  pub vertices_of_tree : AreVertices t vertices
  pub edges_of_tree : AreEdgesIn directed t edges
  pub text : bytes ≡ solution_text_of name workers vertices edges dual primal scale

-- the same where it isn't
abbrev pub AreEdges : Tree → List (ℕ × ℕ) → Type 0
AreEdges t edges = AreEdgesIn false t edges

abbrev pub IsSolutionText : List ℕ → ℕ → Tree → ℕ → ℕ → Scale → List ℕ → Type 0
IsSolutionText name workers t dual primal scale bytes = IsSolutionTextIn false name workers t dual primal scale bytes

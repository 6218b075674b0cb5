-- What the text of a solution tells.
use Rattle.std.specs.Prelude.{◌≡◌, ◌↔◌, ℕ, ◌<◌, ◌^◌, Bool, List, map, All, Contains}
use Rattle.amounts.specs.declared.scale.Scale.{Scale}
use Rattle.st_model.specs.declared.tree.Tree.{Tree}
use Rattle.st_model.specs.Arborescence.{reached}
use Rattle.st_model.specs.Lists.{has}
use Rattle.dimacs_writer.specs.Solution.{ends_written, IsSolutionTextIn, name_byte, solution_text_of}

-- all that stands in a text, and the unit that its dual and its primal count
pub record Solution : Type 0 where
  pub name : List ℕ
  pub workers : ℕ
  pub vertices : List ℕ
  pub edges : List (ℕ × ℕ)
  pub dual : ℕ
  pub primal : ℕ
  pub scale : Scale

abbrev pub text_of : Solution → List ℕ
text_of s = solution_text_of s.name s.workers s.vertices s.edges s.dual s.primal s.scale

-- its numbers have at most 64 bits
pub record IsInRange (s : Solution) : Type 0 where
  pub workers : s.workers < 2 ^ 64
  pub vertices : All (λ v. v < 2 ^ 64) s.vertices
  pub edges : All (λ edge. (edge.0 < 2 ^ 64) × (edge.1 < 2 ^ 64)) s.edges
  pub dual : s.dual < 2 ^ 64
  pub primal : s.primal < 2 ^ 64

-- all is the same, but for bytes of the name that are written alike
pub record IsSame (s t : Solution) : Type 0 where
  pub name : map name_byte s.name ≡ map name_byte t.name
  pub workers : s.workers ≡ t.workers
  pub vertices : s.vertices ≡ t.vertices
  pub edges : s.edges ≡ t.edges
  pub dual : s.dual ≡ t.dual
  pub primal : s.primal ≡ t.primal

-- solutions with the same text are the same, if both count the same unit: the text doesn't tell which
abbrev pub TextTellsSolution : Type 0
TextTellsSolution = (s t : Solution) → IsInRange s → IsInRange t → s.scale ≡ t.scale → text_of s ≡ text_of t → IsSame s t

-- its vertices have at most 64 bits
pub record IsSmallTree (t : Tree) : Type 0 where
  pub start : t.start < 2 ^ 64
  pub arcs : All (λ arc. (arc.0 < 2 ^ 64) × (arc.1 < 2 ^ 64)) t.arcs

-- both reach the same vertices along the same links, or along the same arcs where the instance is directed
pub record HaveSameSets (directed : Bool) (s t : Tree) : Type 0 where
  pub vertices : (v : ℕ) → has (reached s) v ≡ has (reached t) v
  pub edges : (edge : ℕ × ℕ) → Contains (map (ends_written directed) s.arcs) edge ↔ Contains (map (ends_written directed) t.arcs) edge

-- a tree has one text, whatever the order of its arcs, and where the instance isn't directed, whatever their directions
abbrev pub TreeHasOneText : Type 0
TreeHasOneText = (directed : Bool) (name : List ℕ) (workers : ℕ) (s t : Tree) (dual primal : ℕ) (scale : Scale) (bytes others : List ℕ) → HaveSameSets directed s t → IsSolutionTextIn directed name workers s dual primal scale bytes → IsSolutionTextIn directed name workers t dual primal scale others → bytes ≡ others

-- trees that have one text are the same but for the order of their arcs, and where the instance isn't directed for their directions, whatever unit their costs count
abbrev pub TextTellsTree : Type 0
TextTellsTree = (directed : Bool) (name other_name : List ℕ) (workers other_workers : ℕ) (s t : Tree) (dual other_dual primal other_primal : ℕ) (scale other_scale : Scale) (bytes : List ℕ) → IsSmallTree s → IsSmallTree t → IsSolutionTextIn directed name workers s dual primal scale bytes → IsSolutionTextIn directed other_name other_workers t other_dual other_primal other_scale bytes → HaveSameSets directed s t

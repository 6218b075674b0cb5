-- What is written of a tree is read: of a tree of an instance, where it is judged as this tree, and of a tree of a problem of either kind.
use Rattle.std.specs.Prelude.{◌≡◌, ℕ, ◌*◌, ◌^◌, ◌<◌, Bool, List, map, Some}
use Rattle.std.specs.List.Sorted.{IsPermutation}
use Rattle.st_model.specs.declared.tree.Tree.{Tree}
use Rattle.st_model.specs.Arborescence.{IsTree, IsTreeIn, cost, cost_in}
use Rattle.st_model.specs.Network.{Network, IsInstance}
use Rattle.amounts.specs.declared.scale.Scale.{Scale}
use Rattle.amounts.specs.Laws.{unit}
use Rattle.arborescence.specs.Problem.{Problem, IsProblem, ground_of}
use Rattle.dimacs_writer.specs.Solution.{AreEdgesIn, AreVertices, IsSolutionText, IsSolutionTextIn, ends_written}
use Rattle.solution_reader.specs.Claim.{Claim}
use Rattle.solution_reader.specs.Reads.{ReadsSolution}
use Rattle.solution_reader.specs.Stated.{IsClaimedTree, IsStated}

-- the bytes make a claim of this tree's vertices and links that states its cost, and that is this tree
pub record ClaimsTree (I : Network) (scale : Scale) (t : Tree) (bytes : List ℕ) : Type 0 where
  pub claim : Claim
  pub reads : ReadsSolution bytes claim
  pub claimed : IsClaimedTree I claim t
  pub primal : claim.primal ≡ Some (cost I t * unit scale)
  pub stated : IsStated I scale claim (cost I t)

-- each solution text of a tree of an instance at its cost, which is a number of units of the scale
abbrev pub WrittenIsRead : Type 0
WrittenIsRead = (I : Network) (t : Tree) (name : List ℕ) (workers dual : ℕ) (scale : Scale) (bytes : List ℕ) → IsInstance I → IsTree I t → workers < 2 ^ 64 → dual < 2 ^ 64 → IsSolutionText name workers t dual
    (cost I t) scale bytes → ClaimsTree I scale t bytes

-- the bytes make a claim of the vertices that this tree reaches, ascending, and of its arcs as they are written, line by line and each once, that states this primal, in millionths
pub record ClaimsWritten (directed : Bool) (t : Tree) (primal : ℕ) (bytes : List ℕ) : Type 0 where
  pub claim : Claim
  pub reads : ReadsSolution bytes claim
  pub vertices : AreVertices t claim.vertices
  pub edges : AreEdgesIn directed t claim.edges
  pub each : IsPermutation claim.edges (map (ends_written directed) t.arcs)
  pub primal_said : claim.primal ≡ Some primal

-- each solution text of a tree of a problem at its cost, whether its arcs are written as they go or with their lower ends first
abbrev pub WrittenIsReadIn : Type 0
WrittenIsReadIn = (directed : Bool) (P : Problem) (t : Tree) (name : List ℕ) (workers dual : ℕ) (scale : Scale) (bytes : List ℕ) → IsProblem P → IsTreeIn (ground_of P) t → workers < 2 ^ 64 → dual < 2 ^ 64
    → IsSolutionTextIn directed name workers t dual (cost_in (ground_of P) t) scale bytes → ClaimsWritten directed t (cost_in (ground_of P) t * unit scale) bytes

-- What a solution claims: its vertices, its edges, and what it says that it costs.
use Rattle.std.specs.Prelude.{◌≡◌, ℕ, IsTrue, List, [], ◌∷◌, ◌++◌, All, Option}
use Rattle.std.specs.List.{flat_map}
use Rattle.std.specs.List.Sorted.{IsStrictlyIncreasing}
use Rattle.st_model.specs.Lists.{has}
use Rattle.solution_reader.specs.Place.{Whole}

pub record Claim : Type 0 where
  pub vertices : List ℕ
  pub edges : List (ℕ × ℕ)
  -- in millionths
  pub primal : Option ℕ

-- the vertices ascend, each once, and the ends of edges are among them
pub record IsClaim (claim : Claim) : Type 0 where
  pub ascending : IsStrictlyIncreasing claim.vertices
  pub ends : All (λ edge. IsTrue (has claim.vertices edge.0) × IsTrue (has claim.vertices edge.1)) claim.edges

-- the ends of edges, edge by edge
abbrev pub ends_of : List (ℕ × ℕ) → List ℕ
ends_of edges = flat_map (λ edge. edge.0 ∷ edge.1 ∷ []) edges

-- the claim of a whole text: as vertices those of its lines V and all ends of its lines E, ascending, each once
pub record IsClaimOf (w : Whole) (claim : Claim) : Type 0 where
  pub ascending : IsStrictlyIncreasing claim.vertices
  pub same : (v : ℕ) → has claim.vertices v ≡ has (w.final.vertices ++ ends_of w.final.edges) v
  pub edges : claim.edges ≡ w.final.edges
  pub primal : claim.primal ≡ w.primal

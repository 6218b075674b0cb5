-- A flag for each vertex, as the code keeps a set of them. Helpers' clauses cite this, and no public one.
use Rattle.std.specs.Prelude.{◌≡◌, ℕ, ◌+◌, ◌≤◌, Bool, false, IsTrue, IsFalse, IsSome, List, length, slice_index_or}
use Rattle.st_model.specs.Lists.{has}
use Rattle.st_model.specs.Network.{Network, link}

-- the flags from 0 to n are set for the vertices of the list
pub record AreMarks (n : ℕ) (marks : List Bool) (r : List ℕ) : Type 0 where
  pub long : length marks ≡ n + 1
  pub same : (v : ℕ) → v ≤ n → slice_index_or marks v false ≡ has r v

-- a link from a vertex that is reached to one that isn't
pub record IsNewArc (I : Network) (r : List ℕ) (arc : ℕ × ℕ) : Type 0 where
  pub linked : IsSome (link I.links arc.0 arc.1)
  pub from : IsTrue (has r arc.0)
  pub to : IsFalse (has r arc.1)

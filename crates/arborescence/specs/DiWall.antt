-- Sets of vertices that keep a terminal from the root.
use Rattle.std.specs.Prelude.{ℕ, IsTrue, IsFalse, IsSome, List, All}
use Rattle.st_model.specs.Lists.{has}
use Rattle.st_model.specs.Network.{IsVertex}
use Rattle.arborescence.specs.DiNetwork.{DiNetwork, arc_from}

-- vertices in range that no arc leaves, with the root inside and a terminal outside
pub record IsDiWall (D : DiNetwork) (wall : List ℕ) : Type 0 where
  pub in_range : All (IsVertex D.n) wall
  pub root : IsTrue (has wall D.root)
  pub outside : (v : ℕ) × IsTrue (has D.terminals v) × IsFalse (has wall v)
  pub unleft : (u v : ℕ) → IsSome (arc_from D.arcs u v) → IsTrue (has wall u) → IsTrue (has wall v)

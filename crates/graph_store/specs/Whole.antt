-- Graphs of which no vertex is gone.
use Rattle.std.specs.Prelude.{◌≡◌, ℕ, IsTrue}
use Rattle.st_model.specs.Network.{Network, IsVertex}
use Rattle.graph_store.specs.Graph.{Graph, is_in}

-- no vertex is gone
abbrev pub IsWhole : Graph → Type 0
IsWhole g = (v : ℕ) → IsVertex g.network.n v → IsTrue (is_in g v)

-- the graph is the network, and no vertex is gone
pub record IsWholeOf (I : Network) (g : Graph) : Type 0 where
  pub network : g.network ≡ I
  pub whole : IsWhole g

-- The halves of links that begin at a vertex.
use Rattle.std.specs.Prelude.{◌≡◌, ◌≢◌, ℕ, ◌↔◌, List, Contains, length, All, AllPairs, Some}
use Rattle.st_model.specs.Network.{Network, IsVertex, link}
use Rattle.graph_store.specs.declared.half.Half.{Half}

-- the halves are of the vertices that are linked with v, each once, at the cost of its link
pub record AreNeighbours (I : Network) (v : ℕ) (halves : List Half) : Type 0 where
  pub linked : (w cost : ℕ) → Contains halves (record { to = w; cost = cost }) ↔ (link I.links v w ≡ Some cost)
  pub once : AllPairs (λ h k. h.to ≢ k.to) halves
  pub others : All (λ h. IsVertex I.n h.to × (h.to ≢ v)) halves

-- v is linked with this many vertices
abbrev pub IsDegree : Network → ℕ → ℕ → Type 0
IsDegree I v degree = (halves : List Half) × AreNeighbours I v halves × (length halves ≡ degree)

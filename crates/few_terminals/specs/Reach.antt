-- The vertices that a table is made over: all that links lead to from the root. Helpers' clauses cite this, and no public one.
use Rattle.std.specs.Prelude.{◌≡◌, ℕ, ◌<◌, ◌==◌, IsTrue, IsSome, List, ◌++◌, length, All, slice_index_or}
use Rattle.std.specs.List.{position_or_len}
use Rattle.st_model.specs.Lists.{has}
use Rattle.st_model.specs.Network.{Network, IsVertex, link}
use Rattle.st_model.specs.VertexSet.{AllApart}
use Rattle.graph_store.specs.declared.half.Half.{Half}

-- where a vertex stands in a list, and past its end where it doesn't
abbrev pub slot_of : List ℕ → ℕ → ℕ
slot_of vs v = position_or_len (λ x. x == v) vs

-- no link leads out of a list
abbrev pub IsClosed : Network → List ℕ → Type 0
IsClosed I vs = (u v : ℕ) → IsTrue (has vs u) → IsSome (link I.links u v) → IsTrue (has vs v)

-- some halves have led on, and what was reached before comes first
pub record HasFollowed (I : Network) (old : List ℕ) (halves : List Half) (new : List ℕ) : Type 0 where
  pub more : List ℕ
  pub appended : new ≡ old ++ more
  pub vertices : All (IsVertex I.n) more
  pub heads : All (λ half. IsTrue (has new half.to)) halves

-- a vertex is reached, and the links from the first that are have been followed
pub record IsReaching (I : Network) (root : ℕ) (members : List ℕ) (next : ℕ) : Type 0 where
  pub root_is : IsTrue (has members root)
  pub vertices : All (IsVertex I.n) members
  pub followed : (k : ℕ) → k < next → k < length members → (v : ℕ) → IsSome (link I.links (slice_index_or members k 0) v) → IsTrue (has members v)

-- vertices with this one, which no link leads out of
pub record AreReached (I : Network) (root : ℕ) (members : List ℕ) : Type 0 where
  pub root_is : IsTrue (has members root)
  pub vertices : All (IsVertex I.n) members
  pub closed : IsClosed I members

-- vertices, each once, with all of these, which no link leads out of
pub record IsReach (I : Network) (ks vs : List ℕ) : Type 0 where
  pub apart : AllApart vs
  pub vertices : All (IsVertex I.n) vs
  pub known : (k : ℕ) → IsTrue (has ks k) → IsTrue (has vs k)
  pub closed : IsClosed I vs

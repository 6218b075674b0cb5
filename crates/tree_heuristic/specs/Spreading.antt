-- A tree that grows over all that links lead to. Helpers' clauses cite this, and no public one.
use Rattle.std.specs.Prelude.{◌≡◌, ℕ, ◌+◌, ◌≤◌, IsTrue, IsFalse, IsSome, if◌then◌else◌, ◌||◌, List, [], ◌∷◌, ◌++◌, length, take, All, Option, Some, None}
use Rattle.st_model.specs.Arborescence.{Grows}
use Rattle.st_model.specs.Growth.{reaches}
use Rattle.st_model.specs.Lists.{has}
use Rattle.st_model.specs.Network.{Network, IsVertex, link, pays}
use Rattle.graph_store.specs.declared.half.Half.{Half}
use Rattle.graph_store.specs.Graph.{Graph, is_in}
use Rattle.tree_heuristic.specs.declared.spread.Spread.{Spread}

-- v is present and not outside, so a tree may join it
pub record MayJoin (g : Graph) (out : List ℕ) (v : ℕ) : Type 0 where
  pub present : IsTrue (is_in g v)
  pub inside : IsFalse (has out v)

-- arcs that grow from the start over vertices that may join, and the vertices that they reach
pub record IsSpread (g : Graph) (out : List ℕ) (s : Spread) : Type 0 where
  pub grows : Grows g.network (s.start ∷ []) s.arcs.items
  pub same : (v : ℕ) → has s.reached.members v ≡ reaches s.start s.arcs.items v
  pub only_joining : (v : ℕ) → IsTrue (has s.reached.members v) → MayJoin g out v
  pub count : s.reached.count ≡ g.network.n + 1

-- a link from the first to a vertex that isn't outside leads to one of all
abbrev pub IsClosed : Network → List ℕ → List ℕ → List ℕ → Type 0
IsClosed I out first all = (u v : ℕ) → IsTrue (has first u) → IsSome (link I.links u v) → IsFalse (has out v) → IsTrue (has all v)

-- an arc is taken, unless its head is outside or reached
pub record Follows (out : List ℕ) (old : Spread) (tail head : ℕ) (new : Spread) : Type 0 where
  pub start : new.start ≡ old.start
  pub arcs : new.arcs.items ≡ (if has out head || has old.reached.members head then old.arcs.items else old.arcs.items ++ (tail, head) ∷ [])
  pub members : new.reached.members ≡ (if has out head || has old.reached.members head then old.reached.members else old.reached.members ++ head ∷ [])
  pub count : new.reached.count ≡ old.reached.count

-- each of the halves has led on, and what was reached before comes first
pub record HasGoneOn (g : Graph) (out : List ℕ) (old : Spread) (halves : List Half) (new : Spread) : Type 0 where
  pub spread : IsSpread g out new
  pub start : new.start ≡ old.start
  pub keeps : take (length old.reached.members) new.reached.members ≡ old.reached.members
  pub heads : All (λ h. IsFalse (has out h.to) → IsTrue (has new.reached.members h.to)) halves

-- each vertex that is linked with the tail and not outside is reached
pub record HasFollowed (g : Graph) (out : List ℕ) (old : Spread) (tail : ℕ) (new : Spread) : Type 0 where
  pub spread : IsSpread g out new
  pub start : new.start ≡ old.start
  pub keeps : take (length old.reached.members) new.reached.members ≡ old.reached.members
  pub heads : (v : ℕ) → IsSome (link g.network.links tail v) → IsFalse (has out v) → IsTrue (has new.reached.members v)

-- the links of the first members have been followed
pub record IsUnderWay (g : Graph) (out : List ℕ) (from : ℕ) (s : Spread) (count : ℕ) : Type 0 where
  pub spread : IsSpread g out s
  pub closed : IsClosed g.network out (take count s.reached.members) s.reached.members
  pub start : s.start ≡ from
  pub few : count ≤ length s.reached.members

-- of the vertices that may join, up to a last one the best is one that pays most, and this is what it pays
abbrev pub IsDearest : Graph → List ℕ → ℕ → Option ℕ → ℕ → Type 0
IsDearest g out last None p = (w : ℕ) → IsVertex last w → MayJoin g out w → ⊥
IsDearest g out last (Some v) p = (p ≡ pays g.network v) × IsVertex last v × MayJoin g out v × ((w : ℕ) → IsVertex last w → MayJoin g out w → pays g.network w ≤ p)

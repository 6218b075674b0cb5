-- Walks over links, what they cost, and the least of them.
use Rattle.std.specs.Prelude.{◌≡◌, ℕ, ◌+◌, ◌≤◌, List, [], ◌∷◌, ◌++◌, Contains, Option, Some, None, slice_index_or}
use Rattle.std.specs.Option.{option_map, option_and_then}
use Rattle.st_model.specs.declared.link.Link.{Link}
use Rattle.st_model.specs.Network.{link}
use Rattle.st_model.specs.VertexSet.{AllApart}

-- a walk from u, to a vertex and of a cost
pub data IsWalk (links : List Link) (u : ℕ) : ℕ → ℕ → Type 0 where
  stay : IsWalk links u u 0
  on : {v w c d : ℕ} → IsWalk links u v c → link links v w ≡ Some d → IsWalk links u w (c + d)

-- some walk from a source to v costs d, and none costs less
pub record IsDistance (links : List Link) (sources : List ℕ) (v d : ℕ) : Type 0 where
  pub walk : (s : ℕ) × Contains sources s × IsWalk links s v d
  pub least : (s c : ℕ) → Contains sources s → IsWalk links s v c → d ≤ c

-- what it costs to go from u to each of the vertices in turn, if each two next ones are linked
abbrev pub cost_along : List Link → ℕ → List ℕ → Option ℕ
cost_along links u [] = Some 0
cost_along links u (v ∷ rest) = option_and_then (λ c. option_map (λ d. c + d) (cost_along links v rest)) (link links u v)

-- what a path costs; none is empty
abbrev pub path_cost : List Link → List ℕ → Option ℕ
path_cost links [] = None
path_cost links (u ∷ rest) = cost_along links u rest

-- the vertex that a path begins with
abbrev pub first_of : List ℕ → ℕ
first_of path = slice_index_or path 0 0

-- the path begins with a source, ends with v, goes over links, passes no vertex twice and costs c
pub record IsPath (links : List Link) (sources path : List ℕ) (v c : ℕ) : Type 0 where
  pub begins : (s : ℕ) × (rest : List ℕ) × Contains sources s × (path ≡ s ∷ rest)
  pub ends : (front : List ℕ) × (path ≡ front ++ v ∷ [])
  pub once : AllApart path
  pub cost : path_cost links path ≡ Some c

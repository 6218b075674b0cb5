-- For each vertex how far it is from the sources, and by which path.
use Rattle.std.specs.Prelude.{◌≡◌, ℕ, ◌-◌, ◌<◌, ◌≤◌, List, length, slice_index_or, Contains, Option, Some, None}
use Rattle.st_model.specs.declared.link.Link.{Link}
use Rattle.st_model.specs.Network.{IsVertex}
use Rattle.short_paths.specs.Walk.{first_of, IsWalk, IsDistance, IsPath}

-- how far a vertex is, and a path to it
pub record Route : Type 0 where
  pub cost : ℕ
  pub path : List ℕ

-- the route to v, in a list for the vertices 1, 2, .. n
abbrev pub route_of : List (Option Route) → ℕ → Option Route
route_of routes v = slice_index_or routes (v - 1) None

-- the vertex that the route begins with, 0 where there is none
abbrev pub source_of : Option Route → ℕ
source_of None = 0
source_of (Some route) = first_of route.path

-- the route is a path of the distance, which is within the limit
pub record IsRoute (links : List Link) (sources : List ℕ) (limit v : ℕ) (route : Route) : Type 0 where
  pub distance : IsDistance links sources v route.cost
  pub within : route.cost ≤ limit
  pub path : IsPath links sources route.path v route.cost

-- there is a route for each vertex to which a walk costs at most the limit, and for no other
pub record AreRoutes (links : List Link) (n : ℕ) (sources : List ℕ) (limit : ℕ) (routes : List (Option Route)) : Type 0 where
  pub count : length routes ≡ n
  pub reached : (v : ℕ) (route : Route) → IsVertex n v → route_of routes v ≡ Some route → IsRoute links sources limit v route
  pub beyond : (v : ℕ) → IsVertex n v → route_of routes v ≡ None → (s c : ℕ) → Contains sources s → IsWalk links s v c → limit < c

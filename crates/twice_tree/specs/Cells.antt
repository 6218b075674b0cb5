-- Cells: for each terminal the vertices to which it is nearest. Helpers' clauses cite this, and no public one.
use Rattle.std.specs.Prelude.{◌≡◌, ℕ, ◌+◌, ◌-◌, ◌^◌, ◌<◌, ◌≤◌, if◌then◌else◌, List, length, Option, slice_index_or, unwrap_or}
use Rattle.std.specs.Option.{option_map}
use Rattle.st_model.specs.Branch.{AreThose}
use Rattle.st_model.specs.Network.{Network, IsInstance, is_required}
use Rattle.short_paths.specs.Routes.{Route, AreRoutes, route_of, source_of}
use Rattle.twice_tree.specs.declared.cells.Cells.{Cells}
use Rattle.twice_tree.specs.declared.chains.Chains.{Chains}
use Rattle.twice_tree.specs.declared.chains.Place.{Place}

-- how far a vertex is from the nearest terminal; where no route leads there, the greatest number of 64 bits
abbrev pub far_in : List (Option Route) → ℕ → ℕ
far_in routes v = unwrap_or (option_map (λ route. route.cost) (route_of routes v)) (2 ^ 64 - 1)

-- the terminal in whose cell a vertex is: itself where it is one, and else the source of its route; 0 where there is no route
abbrev pub terminal_of : Network → List (Option Route) → ℕ → ℕ
terminal_of I routes v = if is_required I v then v else source_of (route_of routes v)

-- the least vertex of a cell above a bound, and a number above n where there is none
pub record IsFirst (cell : ℕ → ℕ) (n bound k v : ℕ) : Type 0 where
  pub above : bound < v
  pub within : v ≤ n → cell v ≡ k
  pub first : (w : ℕ) → bound < w → w ≤ n → cell w ≡ k → v ≤ w

-- a place says how far the vertex is, in which cell, and which vertex comes next there
pub record IsPlace (I : Network) (routes : List (Option Route)) (v : ℕ) (place : Place) : Type 0 where
  pub far : place.far ≡ far_in routes v
  pub terminal : place.terminal ≡ terminal_of I routes v
  pub next : IsFirst (terminal_of I routes) I.n v (terminal_of I routes v) place.next

abbrev pub place_at : List Place → ℕ → Place
place_at places v = slice_index_or places v (record { far = 0; terminal = 0; next = 0 })

-- the vertices above a bound are chained
pub record AreChained (I : Network) (routes : List (Option Route)) (bound : ℕ) (c : Chains) : Type 0 where
  pub places_long : length c.places.items ≡ I.n + 1
  pub firsts_long : length c.firsts.items ≡ I.n + 1
  pub placed : (v : ℕ) → bound < v → v ≤ I.n → IsPlace I routes v (place_at c.places.items v)
  pub firsts : (k : ℕ) → k ≤ I.n → IsFirst (terminal_of I routes) I.n bound k (slice_index_or c.firsts.items k 0)

-- distances from all terminals, and the vertices of each cell
pub record AreCells (I : Network) (c : Cells) : Type 0 where
  pub instance : IsInstance I
  pub terminals : List ℕ
  pub those : AreThose (is_required I) I.n terminals
  pub routes : AreRoutes I.links I.n terminals (2 ^ 64 - 1) c.distances
  pub chained : AreChained I c.distances 0 c.chains

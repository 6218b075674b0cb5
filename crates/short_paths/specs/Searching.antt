-- What a search for distances keeps: vertices that are settled, and offers to others.
use Rattle.std.specs.Prelude.{◌≡◌, ℕ, ◌+◌, ◌<◌, ◌≤◌, ◌⊎◌, List, [], ◌∷◌, ◌++◌, length, map, drop, fold, All, Contains, slice_get, slice_index_or, Option, Some, None, IsSome, IsTrue}
use Rattle.std.specs.Option.{option_map}
use Rattle.st_model.specs.declared.link.Link.{Link}
use Rattle.st_model.specs.Lists.{has}
use Rattle.st_model.specs.Network.{IsVertex, link}
use Rattle.short_paths.specs.declared.queue.Offer.{Offer}
use Rattle.short_paths.specs.declared.settled.Settled.{Settled}
use Rattle.short_paths.specs.Walk.{IsDistance, IsPath}
use Rattle.short_paths.specs.Routes.{Route}

-- the paths to the settled vertices, each from the one that it comes from
abbrev pub paths_of : List Settled → List (List ℕ)
paths_of settled = fold (λ paths s. paths ++ (slice_index_or paths s.before [] ++ s.vertex ∷ []) ∷ []) [] settled

-- the route to the vertex that was settled at a place
abbrev pub route_at : List Settled → ℕ → Route
route_at settled place = record { cost = (slice_index_or settled place (record { vertex = 0; cost = 0; before = 0 })).cost; path = slice_index_or (paths_of settled) place [] }

-- the routes to vertex 1, 2, .. n
abbrev pub routes_of : List Settled → List (Option ℕ) → List (Option Route)
routes_of settled places = map (option_map (route_at settled)) (drop 1 places)

-- the place of a vertex among those that are settled
abbrev pub place_of : List (Option ℕ) → ℕ → Option ℕ
place_of places v = slice_index_or places v None

-- something at most so dear was offered to v
abbrev pub IsOffered : List (Option ℕ) → ℕ → ℕ → Type 0
IsOffered best v cost = (least : ℕ) × (slice_index_or best v None ≡ Some least) × (least ≤ cost)

-- an offer to v at most so dear waits
abbrev pub Waits : List Offer → ℕ → ℕ → Type 0
Waits queue v cost = (offer : Offer) × Contains queue offer × (offer.to ≡ v) × (offer.cost ≤ cost)

-- a vertex is a source at cost 0, or is linked with a settled vertex
abbrev pub Comes : List Link → List ℕ → List (Option ℕ) → List Settled → ℕ → ℕ → ℕ → Type 0
Comes links sources places settled from v cost = ((from ≡ 0) × (cost ≡ 0) × Contains sources v)
    ⊎ ((place : ℕ) × (s : Settled) × (d : ℕ) × (place_of places from ≡ Some place) × (slice_get settled place ≡ Some s) × (link links s.vertex v ≡ Some d) × (cost ≡ s.cost + d))

-- what holds of each offer that waits
pub record IsFair (links : List Link) (n : ℕ) (sources : List ℕ) (limit : ℕ) (places : List (Option ℕ)) (settled : List Settled) (offer : Offer) : Type 0 where
  pub in_range : IsVertex n offer.to
  pub within : offer.cost ≤ limit
  pub comes : Comes links sources places settled offer.from offer.to offer.cost

-- v is one of the settled vertices
abbrev pub IsSettled : List Settled → ℕ → Type 0
IsSettled settled v = (place : ℕ) × (s : Settled) × (slice_get settled place ≡ Some s) × (s.vertex ≡ v)

-- what holds of the vertex that was settled at a place
pub record IsExact (links : List Link) (n : ℕ) (sources : List ℕ) (limit : ℕ) (settled : List Settled) (place : ℕ) (s : Settled) : Type 0 where
  pub in_range : IsVertex n s.vertex
  pub distance : IsDistance links sources s.vertex s.cost
  pub within : s.cost ≤ limit
  pub path : IsPath links sources (slice_index_or (paths_of settled) place []) s.vertex s.cost
  pub passed : (v : ℕ) → IsTrue (has (slice_index_or (paths_of settled) place []) v) → IsSettled settled v

-- each vertex that is linked with a settled one was offered what it costs by there, if that is within the limit
abbrev pub IsRelaxed : List Link → ℕ → List (Option ℕ) → Settled → Type 0
IsRelaxed links limit best s = (w d : ℕ) → link links s.vertex w ≡ Some d → (limit < s.cost + d) ⊎ IsOffered best w (s.cost + d)

-- what holds all along a search
pub record IsSearch (links : List Link) (n : ℕ) (sources : List ℕ) (limit : ℕ) (best places : List (Option ℕ)) (settled : List Settled) (queue : List Offer) : Type 0 where
  pub best_long : length best ≡ n + 1
  pub places_long : length places ≡ n + 1
  pub exact : (place : ℕ) (s : Settled) → slice_get settled place ≡ Some s → IsExact links n sources limit settled place s
  pub placed : (v place : ℕ) → place_of places v ≡ Some place → (s : Settled) × (slice_get settled place ≡ Some s) × (s.vertex ≡ v)
  pub found : (place : ℕ) (s : Settled) → slice_get settled place ≡ Some s → IsSome (place_of places s.vertex)
  pub fair : All (IsFair links n sources limit places settled) queue
  pub offered : (v least : ℕ) → slice_index_or best v None ≡ Some least → IsSome (place_of places v) ⊎ Waits queue v least

-- all settled vertices up to a place were relaxed, and all sources were offered
pub record IsSpread (links : List Link) (sources : List ℕ) (limit : ℕ) (best : List (Option ℕ)) (settled : List Settled) (many : ℕ) : Type 0 where
  pub started : (s : ℕ) → Contains sources s → IsOffered best s 0
  pub relaxed : (place : ℕ) (s : Settled) → place < many → slice_get settled place ≡ Some s → IsRelaxed links limit best s

-- the vertices that aren't settled
abbrev pub open_count : List (Option ℕ) → ℕ
open_count [] = 0
open_count (None ∷ places) = 1 + open_count places
open_count (Some place ∷ places) = open_count places

-- places of vertices are places of settled ones
pub record ArePlaces (settled : List Settled) (places : List (Option ℕ)) : Type 0 where
  pub some : 1 ≤ length places
  pub within : (v place : ℕ) → place_of places v ≡ Some place → place < length settled

-- The steps of a search: what each does to its parts.
use Rattle.std.specs.Prelude.{◌≡◌, ℕ, ◌+◌, ◌-◌, ◌*◌, ◌^◌, ◌<◌, ◌≤◌, ◌⊎◌, List, [], ◌∷◌, ◌++◌, length, All, slice_get, slice_index_or, slice_set, unwrap_or, Some, None, IsPermutation}
use Rattle.st_model.specs.declared.link.Link.{Link}
use Rattle.st_model.specs.Network.{link}
use Rattle.graph_store.specs.declared.half.Half.{Half}
use Rattle.short_paths.specs.declared.queue.Offer.{Offer}
use Rattle.short_paths.specs.declared.search.Search.{Search}
use Rattle.short_paths.specs.declared.settled.Settled.{Settled}
use Rattle.short_paths.specs.Marks.{bests_of, places_of}
use Rattle.short_paths.specs.Searching.{IsOffered, IsSearch, IsSpread, place_of, open_count}

-- an offer of a cost, to a vertex and from one (0 where the first is a source)
abbrev pub offer_of : ℕ → ℕ → ℕ → Offer
offer_of cost to from = record { cost = cost; to = to; from = from }

-- something is offered to a vertex, unless what it was offered is at most so dear
pub record Offers (old new : Search) (cost to from : ℕ) : Type 0 where
  pub places : places_of new.marks.items ≡ places_of old.marks.items
  pub settled : new.settled.items ≡ old.settled.items
  pub either : (IsOffered (bests_of old.marks.items) to cost × (bests_of new.marks.items ≡ bests_of old.marks.items) × (new.queue ≡ old.queue))
      ⊎ (((least : ℕ) → slice_index_or (bests_of old.marks.items) to None ≡ Some least → cost ≤ least) × (bests_of new.marks.items ≡ slice_set (bests_of old.marks.items) to (Some cost)) × IsPermutation (offer_of cost to from ∷ old.queue) new.queue)

-- the same within a limit alone
pub record Follows (old new : Search) (limit cost to from : ℕ) : Type 0 where
  pub either : ((limit < cost) × (new ≡ old)) ⊎ ((cost ≤ limit) × Offers old new cost to from)

-- what holds between a search and the one that has followed some halves from a settled vertex
pub record HasFollowed (links : List Link) (n limit vertex cost : ℕ) (halves : List Half) (old new : Search) : Type 0 where
  pub places : places_of new.marks.items ≡ places_of old.marks.items
  pub settled : new.settled.items ≡ old.settled.items
  pub best_long : length (bests_of new.marks.items) ≡ length (bests_of old.marks.items)
  pub more : (w x : ℕ) → IsOffered (bests_of old.marks.items) w x → IsOffered (bests_of new.marks.items) w x
  pub offered : All (λ half. (limit < cost + half.cost) ⊎ IsOffered (bests_of new.marks.items) half.to (cost + half.cost)) halves
  pub length : length new.queue ≤ length old.queue + length halves
  pub keeps : (sources : List ℕ) (place : ℕ) (s : Settled) → place_of (places_of old.marks.items) vertex ≡ Some place → slice_get old.settled.items place ≡ Some s → s.vertex ≡ vertex → s.cost ≡ cost
      → IsSearch links n sources limit (bests_of old.marks.items) (places_of old.marks.items) old.settled.items old.queue → IsSearch links n sources limit (bests_of new.marks.items) (places_of new.marks.items) new.settled.items new.queue

-- all that is linked with a settled vertex has been offered what it costs by there
pub record Relaxes (links : List Link) (n limit vertex cost : ℕ) (old new : Search) : Type 0 where
  pub places : places_of new.marks.items ≡ places_of old.marks.items
  pub settled : new.settled.items ≡ old.settled.items
  pub more : (w x : ℕ) → IsOffered (bests_of old.marks.items) w x → IsOffered (bests_of new.marks.items) w x
  pub relaxed : (w d : ℕ) → link links vertex w ≡ Some d → (limit < cost + d) ⊎ IsOffered (bests_of new.marks.items) w (cost + d)
  pub length : length new.queue < length old.queue + 2 ^ 64
  pub keeps : (sources : List ℕ) (place : ℕ) (s : Settled) → place_of (places_of old.marks.items) vertex ≡ Some place → slice_get old.settled.items place ≡ Some s → s.vertex ≡ vertex → s.cost ≡ cost
      → IsSearch links n sources limit (bests_of old.marks.items) (places_of old.marks.items) old.settled.items old.queue → IsSearch links n sources limit (bests_of new.marks.items) (places_of new.marks.items) new.settled.items new.queue

-- a vertex is settled; what was offered to others stays as it is
pub record Settles (old new : Search) (vertex cost from : ℕ) : Type 0 where
  pub best_long : length (bests_of new.marks.items) ≡ length (bests_of old.marks.items)
  pub others : (w : ℕ) → (w ≡ vertex → ⊥) → slice_index_or (bests_of new.marks.items) w None ≡ slice_index_or (bests_of old.marks.items) w None
  pub more : (w x : ℕ) → IsOffered (bests_of old.marks.items) w x → IsOffered (bests_of new.marks.items) w x
  pub places : places_of new.marks.items ≡ slice_set (places_of old.marks.items) vertex (Some (length old.settled.items))
  pub settled : new.settled.items ≡ old.settled.items ++ record { cost = cost; vertex = vertex; before = unwrap_or (place_of (places_of old.marks.items) from) (2 ^ 32 - 1) } ∷ []

-- what holds of a search between two offers
pub record IsGoing (links : List Link) (n : ℕ) (sources : List ℕ) (limit : ℕ) (state : Search) (queue : List Offer) : Type 0 where
  pub kept : IsSearch links n sources limit (bests_of state.marks.items) (places_of state.marks.items) state.settled.items queue
  pub spread : IsSpread links sources limit (bests_of state.marks.items) state.settled.items (length state.settled.items)

-- the cheapest of the offers that wait is taken, and its vertex settled if it wasn't
pub record Takes (links : List Link) (n limit : ℕ) (old new : Search) (offer : Offer) : Type 0 where
  pub going : (sources : List ℕ) (before : List Offer) → IsPermutation before (offer ∷ old.queue) → All (λ other. offer.cost ≤ other.cost) before → IsGoing links n sources limit old before → IsGoing links n sources limit new new.queue
  pub counted : length new.settled.items + open_count (places_of new.marks.items) ≡ length old.settled.items + open_count (places_of old.marks.items)
  pub nearer : open_count (places_of new.marks.items) * 2 ^ 64 + length new.queue ≤ open_count (places_of old.marks.items) * 2 ^ 64 + length old.queue

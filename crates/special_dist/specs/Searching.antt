-- What a search for a detour keeps: who was reached, at what, and from where it still has to go on.
use Rattle.std.specs.Prelude.{◌≡◌, ◌≢◌, ℕ, ◌+◌, ◌*◌, ◌^◌, ◌<◌, ◌≤◌, ◌⊎◌, ◌==◌, if◌then◌else◌, IsFalse, List, All, Contains, length, map, slice_get, slice_index_or, unwrap_or, Option, Some, None}
use Rattle.std.specs.BinaryHeap.{heap_items}
use Rattle.st_model.specs.Lists.{sum_to}
use Rattle.st_model.specs.Made.{is_between}
use Rattle.st_model.specs.Network.{Network, link}
use Rattle.special_dist.specs.declared.quest.Quest.{Quest}
use Rattle.special_dist.specs.declared.quest.Visit.{Visit}
use Rattle.special_dist.specs.declared.search.Search.{Search}
use Rattle.special_dist.specs.Visits.{AreVisits, paid_after}

-- what the visit paid, if it is one of v
abbrev pub paid_by : ℕ → Option Visit → Option ℕ
paid_by v None = None
paid_by v (Some s) = if s.vertex == v then Some s.paid else None

-- what is paid at v by its latest visit, if it was visited
abbrev pub paid_at : Search → ℕ → Option ℕ
paid_at s v = paid_by v (slice_get s.visits.items (slice_index_or s.places.items v 0))

-- v was reached at this or less
abbrev pub IsReached : Search → ℕ → ℕ → Type 0
IsReached s v paid = (least : ℕ) × (paid_at s v ≡ Some least) × (least ≤ paid)

-- the places of the visits that wait to be gone on from
abbrev pub waiting : Search → List ℕ
waiting s = map (λ w. w.0.1) (heap_items s.queue)

-- one of these places is of a visit of v at this
abbrev pub Waits : List Visit → List ℕ → ℕ → ℕ → Type 0
Waits visits places v paid = (place : ℕ) × (visit : Visit) × Contains places place × (slice_get visits place ≡ Some visit) × (visit.vertex ≡ v) × (visit.paid ≡ paid)

-- from v with this paid, the walk may go on to w over a link of this cost
pub record LeadsOn (I : Network) (q : Quest) (v paid w cost : ℕ) : Type 0 where
  pub linked : link I.links v w ≡ Some cost
  pub other : IsFalse (is_between (q.a, q.b) v w)
  pub within : paid + cost ≤ q.limit

-- w isn't the end b, and was reached at what is paid by such a walk, or less
abbrev pub IsFollowed : Network → Quest → Search → ℕ → ℕ → Type 0
IsFollowed I q s w paid = (w ≢ q.b) × IsReached s w (paid_after I w paid)

-- wherever a walk may go on from v, it was followed
abbrev pub IsSpread : Network → Quest → Search → ℕ → ℕ → Type 0
IsSpread I q s v paid = (w cost : ℕ) → LeadsOn I q v paid w cost → IsFollowed I q s w (paid + cost)

-- what holds all along a search, where these places wait
pub record IsSearch (I : Network) (q : Quest) (s : Search) (queued : List ℕ) : Type 0 where
  pub begun : IsReached s q.a 0
  pub visits : AreVisits I q s.visits.items
  pub places : All (λ place. place < length s.visits.items) queued
  pub spread : (v paid : ℕ) → paid_at s v ≡ Some paid → Waits s.visits.items queued v paid ⊎ IsSpread I q s v paid

-- how much is still to be done: each visit lowers what is paid at a vertex
abbrev pub weight : ℕ → Search → ℕ
weight n s = 2 * sum_to (λ v. unwrap_or (paid_at s v) (2 ^ 64)) n + length (waiting s)

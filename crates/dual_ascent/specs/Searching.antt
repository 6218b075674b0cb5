-- The search for how far vertices are from one, and the levels made of it. Helpers' clauses cite this, and no public one.
use Rattle.std.specs.Prelude.{◌≡◌, ℕ, ◌+◌, ◌-◌, ◌^◌, ◌<◌, ◌≤◌, ◌⊎◌, ◌==◌, ◌&&◌, min, Bool, IsTrue, List, ◌∷◌, length, map, All, sum, slice_index_or, slice_set, IsPermutation, Some}
use Rattle.std.specs.List.{list_any}
use Rattle.std.specs.List.Sorted.{IsNonDecreasingBy}
use Rattle.std.specs.BinaryHeap.{heap_items, heap_len}
use Rattle.std.specs.declared.cmp.Reverse.{Reverse}
use Rattle.st_model.specs.Lists.{has}
use Rattle.st_model.specs.Network.{IsVertex}
use Rattle.bidirected_form.specs.Digraph.{Digraph, remaining}
use Rattle.cut_packing.specs.declared.cut.Cut.{Cut}
use Rattle.cut_packing.specs.Packing.{load}
use Rattle.dual_ascent.specs.declared.searching.Search.{Search}
use Rattle.dual_ascent.specs.declared.levels.Near.{Near}
use Rattle.dual_ascent.specs.Left.{IsThere, raised}
use Rattle.dual_ascent.specs.Levels.{WalksTo, IsCutFor}

-- a distance that waits, and the vertex that it was offered to
abbrev pub Offer : Type 0
Offer = Reverse (ℕ × ℕ)

-- the least that v was offered
abbrev pub least_of : List ℕ → ℕ → ℕ
least_of least v = slice_index_or least v 0

-- whether v waits with this distance
abbrev pub is_offered : List Offer → ℕ → ℕ → Bool
is_offered queue v distance = list_any (λ e. (e.0.1 == v) && (e.0.0 == distance)) queue

-- along no arc to v a vertex is nearer than it was offered, unless the root is nearer
abbrev pub IsFollowed : Digraph → List ℕ → ℕ → ℕ → Type 0
IsFollowed D least v distance = (u r : ℕ) → remaining D u v ≡ Some r → min (least_of least u) (least_of least D.root) ≤ distance + r

-- the arcs to v were followed, or v waits, or the root is no farther
abbrev pub IsSeen : Digraph → List Offer → List ℕ → ℕ → Type 0
IsSeen D queue least v = IsFollowed D least v (least_of least v) ⊎ IsTrue (is_offered queue v (least_of least v)) ⊎ (least_of least D.root ≤ least_of least v)

-- each vertex was offered what a walk costs, or nothing below the target
pub record IsSearch (D : Digraph) (q target : ℕ) (queue : List Offer) (least : List ℕ) : Type 0 where
  pub small : target < 2 ^ 64
  pub long : length least ≡ D.n + 1
  pub end : least_of least q ≡ 0
  pub within : (v : ℕ) → least_of least v ≤ target
  pub walks : (v : ℕ) → IsVertex D.n v → (least_of least v ≡ target) ⊎ WalksTo D q v (least_of least v)
  pub queued : All (λ e. IsVertex D.n e.0.1) queue
  pub seen : (v : ℕ) → IsVertex D.n v → IsSeen D queue least v

-- what falls with each offer that is taken: all that the vertices were offered, and what waits
abbrev pub still : Search → ℕ
still s = sum s.least.items + heap_len s.queue

-- the vertex was offered less before, or the root was; or it has the offer now, and waits with it
pub record IsLowered (root : ℕ) (old new : Search) (distance v : ℕ) : Type 0 where
  pub below_root : distance < least_of old.least.items root
  pub below : distance < least_of old.least.items v
  pub least : new.least.items ≡ slice_set old.least.items v distance
  pub queue : IsPermutation (record { 0 = (distance, v) } ∷ heap_items old.queue) (heap_items new.queue)

abbrev pub Offers : ℕ → Search → Search → ℕ → ℕ → Type 0
Offers root old new distance v = ((new ≡ old) × ((least_of old.least.items root ≤ distance) ⊎ (least_of old.least.items v ≤ distance))) ⊎ IsLowered root old new distance v

-- a search that goes on from one offer still is one without it
abbrev pub Goes : Digraph → Search → Search → ℕ → ℕ → Type 0
Goes D old new distance v = (q target : ℕ) → IsSearch D q target (record { 0 = (distance, v) } ∷ heap_items old.queue) old.least.items → IsSearch D q target (heap_items new.queue) new.least.items

-- for each vertex the cost of a walk or the target, and no arc leads nearer, up to how far the root is
pub record AreDistances (D : Digraph) (q target : ℕ) (least : List ℕ) : Type 0 where
  pub long : length least ≡ D.n + 1
  pub end : least_of least q ≡ 0
  pub within : (v : ℕ) → least_of least v ≤ target
  pub walks : (v : ℕ) → IsVertex D.n v → (least_of least v ≡ target) ⊎ WalksTo D q v (least_of least v)
  pub arcs : (v : ℕ) → IsVertex D.n v → IsFollowed D least v (least_of least v)

-- the vertices
abbrev pub vertices_of : List Near → List ℕ
vertices_of near = map (λ m. m.vertex) near

-- their distances
abbrev pub distances_of : List Near → List ℕ
distances_of near = map (λ m. m.distance) near

-- a vertex that is nearer than a limit, with its distance
pub record IsNear (n limit : ℕ) (least : List ℕ) (m : Near) : Type 0 where
  pub vertex : IsVertex n m.vertex
  pub distance : m.distance ≡ least_of least m.vertex
  pub below : m.distance < limit

-- those of the vertices 1 to k that are
pub record AreBelow (n limit : ℕ) (least : List ℕ) (k : ℕ) (near : List Near) : Type 0 where
  pub each : All (IsNear n limit least) near
  pub complete : (v : ℕ) → IsVertex k v → least_of least v < limit → IsTrue (has (vertices_of near) v)

-- all vertices that are, the nearest first
pub record AreNear (n limit : ℕ) (least : List ℕ) (near : List Near) : Type 0 where
  pub below : AreBelow n limit least n near
  pub ascending : IsNonDecreasingBy (λ m. m.distance) near

-- cuts for q up to a level: an arc bears what its tail is farther than its head, both up to there
pub record AreUpTo (D : Digraph) (q level : ℕ) (least : List ℕ) (cuts : List Cut) : Type 0 where
  pub each : All (IsCutFor D q) cuts
  pub present : All (λ c. All (IsThere D) c.set) cuts
  pub worth : raised cuts ≡ level
  pub few : length cuts ≤ level
  pub loads : (u v : ℕ) → IsVertex D.n u → IsVertex D.n v → load cuts (u, v) ≡ min (least_of least u) level - min (least_of least v) level

-- The arcs into each vertex, with what the cuts lay on them.
use Rattle.std.specs.Prelude.{◌≡◌, ℕ, ◌+◌, ◌≤◌, ◌==◌, Bool, IsTrue, IsFalse, IsSome, if◌then◌else◌, List, [], ◌∷◌, ◌++◌, length, All, Option, Some, slice_index_or, slice_set}
use Rattle.std.specs.List.{list_any}
use Rattle.st_model.specs.declared.branch.Branch.{Branch}
use Rattle.st_model.specs.declared.link.Link.{Link}
use Rattle.st_model.specs.Lists.{has}
use Rattle.st_model.specs.Network.{Network, link}
use Rattle.st_model.specs.Ground.{Ground, ground}
use Rattle.st_model.specs.Made.{has_pair}
use Rattle.st_model.specs.Branch.{is_present, open_price}
use Rattle.cut_packing.specs.declared.arcs.LoadedArc.{LoadedArc}
use Rattle.cut_packing.specs.declared.cut.Cut.{Cut}
use Rattle.cut_packing.specs.Packing.{load}

-- the arcs into v, of the arcs into each vertex
abbrev pub arcs_into : List (List LoadedArc) → ℕ → List LoadedArc
arcs_into arcs v = slice_index_or arcs v []

-- whether the arc from u to v is there
abbrev pub has_arc : List (List LoadedArc) → ℕ → ℕ → Bool
has_arc arcs u v = list_any (λ arc. arc.tail == u) (arcs_into arcs v)

-- the arcs with one more into a vertex
abbrev pub with_arc : List (List LoadedArc) → ℕ → LoadedArc → List (List LoadedArc)
with_arc arcs head arc = slice_set arcs head (arcs_into arcs head ++ arc ∷ [])

-- an arc after a cut is laid on it, where its head is in the set
abbrev pub laid : List ℕ → ℕ → LoadedArc → LoadedArc
laid set y arc = record arc { load = if has set arc.tail then arc.load else arc.load + y }

-- an arc into v between present vertices, of a link that isn't barred, with its cost and what the cuts lay on it
pub record IsLoadedIn (G : Ground) (B : Branch) (cuts : List Cut) (v : ℕ) (arc : LoadedArc) : Type 0 where
  pub in_range : arc.tail ≤ G.n
  pub tail : IsTrue (is_present B arc.tail)
  pub head : IsTrue (is_present B v)
  pub cost : open_price G B arc.tail v ≡ Some arc.cost
  pub load : arc.load ≡ load cuts (arc.tail, v)

-- of the arcs that have a price here, those that join present vertices and aren't barred, loaded by the cuts
pub record AreLoadedIn (G : Ground) (B : Branch) (price : ℕ → ℕ → Option ℕ) (cuts : List Cut) (arcs : List (List LoadedArc)) : Type 0 where
  pub count : length arcs ≡ G.n + 1
  pub sound : (v : ℕ) → All (IsLoadedIn G B cuts v) (arcs_into arcs v)
  pub complete : (u v : ℕ) → IsTrue (is_present B u) → IsTrue (is_present B v) → IsFalse (has_pair B.barred u v) → IsSome (price u v) → IsTrue (has_arc arcs u v)

-- the same in a network, of the arcs of these links
abbrev pub IsLoaded : Network → Branch → List Cut → ℕ → LoadedArc → Type 0
IsLoaded I B cuts v arc = IsLoadedIn (ground I) B cuts v arc

abbrev pub AreLoaded : Network → Branch → List Link → List Cut → List (List LoadedArc) → Type 0
AreLoaded I B links cuts arcs = AreLoadedIn (ground I) B (link links) cuts arcs

-- The heads of saturated arcs, listed at their tails.
use Rattle.std.specs.Prelude.{ℕ, ◌+◌, ◌≡◌, ◌<◌, ◌↔◌, ◌==◌, ◌&&◌, Bool, IsTrue, List, length, All}
use Rattle.std.specs.List.{list_any}
use Rattle.st_model.specs.declared.branch.Branch.{Branch}
use Rattle.st_model.specs.Lists.{has}
use Rattle.st_model.specs.Network.{Network}
use Rattle.st_model.specs.Ground.{Ground, ground}
use Rattle.st_model.specs.Led.{heads_at}
use Rattle.cut_packing.specs.declared.arcs.LoadedArc.{LoadedArc}
use Rattle.cut_packing.specs.declared.packing.Packing.{Packing}
use Rattle.cut_packing.specs.Full.{IsSaturatedIn}

-- whether one of the arcs comes from u and bears just what its link costs
abbrev pub is_saturated : List LoadedArc → ℕ → Bool
is_saturated arcs u = list_any (λ arc. (arc.tail == u) && (arc.load == arc.cost)) arcs

-- at each vertex the heads of the saturated arcs from it, and no others
pub record AreSaturatedIn (G : Ground) (B : Branch) (P : Packing) (heads : List (List ℕ)) : Type 0 where
  pub count : length heads ≡ G.n + 1
  pub in_range : (u : ℕ) → All (λ v. v < length heads) (heads_at heads u)
  pub exact : (u v : ℕ) → IsTrue (has (heads_at heads u) v) ↔ IsSaturatedIn G B P u v

-- the same in a network
abbrev pub AreSaturated : Network → Branch → Packing → List (List ℕ) → Type 0
AreSaturated I B P heads = AreSaturatedIn (ground I) B P heads

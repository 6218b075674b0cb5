-- Packings to which no cut can be added: the root reaches all that has to be reached or paid for.
use Rattle.std.specs.Prelude.{◌≡◌, ℕ, ◌<◌, nat_lt, Bool, ◌&&◌, ◌||◌, IsTrue, Some}
use Rattle.st_model.specs.declared.branch.Branch.{Branch}
use Rattle.st_model.specs.Network.{Network, IsVertex}
use Rattle.st_model.specs.Ground.{Ground, ground}
use Rattle.st_model.specs.Branch.{is_present, is_undecided, certain_in, open_price}
use Rattle.cut_packing.specs.declared.packing.Packing.{Packing}
use Rattle.cut_packing.specs.Packing.{load, named}

-- an arc between present vertices, of a link that isn't barred, whose whole cost the cuts take
pub record IsSaturatedIn (G : Ground) (B : Branch) (P : Packing) (u v : ℕ) : Type 0 where
  pub tail : IsTrue (is_present B u)
  pub head : IsTrue (is_present B v)
  pub used : open_price G B u v ≡ Some (load P.cuts (u, v))

-- what a walk of such arcs from the root reaches
pub data IsReachedIn (G : Ground) (B : Branch) (P : Packing) (r : ℕ) : ℕ → Type 0 where
  here : IsReachedIn G B P r r
  there : {u v : ℕ} → IsReachedIn G B P r u → IsSaturatedIn G B P u v → IsReachedIn G B P r v

-- whether v has to be reached, or could still be paid for
abbrev pub open_in : Ground → Branch → Packing → ℕ → Bool
open_in G B P v = certain_in G B v || (is_undecided B v && nat_lt (named P.cuts v) (G.pays v))

-- from the root each vertex is reached that is required or inside, or that could still be paid for
pub record IsFullFromIn (G : Ground) (B : Branch) (P : Packing) (r : ℕ) : Type 0 where
  pub certain : (v : ℕ) → IsVertex G.n v → IsTrue (certain_in G B v) → IsReachedIn G B P r v
  pub undecided : (v : ℕ) → IsVertex G.n v → IsTrue (is_undecided B v) → named P.cuts v < G.pays v → IsReachedIn G B P r v

-- there is a root, and it reaches them
abbrev pub IsFullIn : Ground → Branch → Packing → Type 0
IsFullIn G B P = (r : ℕ) × (P.root ≡ Some r) × IsFullFromIn G B P r

-- the same in a network
abbrev pub IsSaturated : Network → Branch → Packing → ℕ → ℕ → Type 0
IsSaturated I B P u v = IsSaturatedIn (ground I) B P u v

abbrev pub IsReached : Network → Branch → Packing → ℕ → ℕ → Type 0
IsReached I B P r v = IsReachedIn (ground I) B P r v

abbrev pub is_open : Network → Branch → Packing → ℕ → Bool
is_open I B P v = open_in (ground I) B P v

abbrev pub IsFullFrom : Network → Branch → Packing → ℕ → Type 0
IsFullFrom I B P r = IsFullFromIn (ground I) B P r

abbrev pub IsFull : Network → Branch → Packing → Type 0
IsFull I B P = IsFullIn (ground I) B P

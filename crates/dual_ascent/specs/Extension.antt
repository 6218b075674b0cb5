-- What an ascent makes of a packing.
use Rattle.std.specs.Prelude.{◌≡◌, ℕ, Bool, true, false, ◌+◌, ◌^◌, ◌≤◌, ◌<◌, ◌⊎◌, IsTrue, [], length, All, Some}
use Rattle.st_model.specs.declared.branch.Branch.{Branch}
use Rattle.st_model.specs.Network.{Network, IsVertex}
use Rattle.st_model.specs.Branch.{IsVertexSet, IsBranch, LeavesRequired, is_certain}
use Rattle.cut_packing.specs.declared.packing.Packing.{Packing}
use Rattle.cut_packing.specs.Packing.{Fits, base_weight}
use Rattle.cut_packing.specs.Full.{IsFull}
use Rattle.dual_ascent.specs.declared.ascent.Ascent.{Ascent}
use Rattle.dual_ascent.specs.declared.ascent.Ascent.TheVariants.{Full, Reached}

-- a packing that fits the branch, with sets that are written in ascending order, each vertex once
pub record IsStart (I : Network) (B : Branch) (P : Packing) : Type 0 where
  pub branch : IsBranch I B
  pub required : LeavesRequired I B
  pub fits : Fits I B P
  pub sets : All (λ c. IsVertexSet I.n c.set) P.cuts

-- the packing has this root, or no cuts, and every tree of the branch reaches it
pub record IsRootFor (I : Network) (B : Branch) (P : Packing) (root : ℕ) : Type 0 where
  pub vertex : IsVertex I.n root
  pub certain : IsTrue (is_certain I B root)
  pub same : (P.cuts ≡ []) ⊎ (P.root ≡ Some root)

-- a packing that fits as well, of no less base weight: where two links that are a must enter a cut that is added, it may weigh less by `weight`
pub record IsExtended (I : Network) (B : Branch) (P new : Packing) (root : ℕ) : Type 0 where
  pub rooted : new.root ≡ Some root
  pub fits : Fits I B new
  pub no_lighter : base_weight I B P ≤ base_weight I B new
  pub sets : All (λ c. IsVertexSet I.n c.set) new.cuts
  -- so that they can be counted in 64 bits
  pub few : length new.cuts < 2 ^ 64

-- its base weight is just as much more as was asked for; or it is less than that, and the packing is full
abbrev pub IsExtension : Network → Branch → Packing → ℕ → ℕ → Ascent → Type 0
IsExtension I B P root target (Full new) = IsExtended I B P new root × (base_weight I B new < base_weight I B P + target) × IsFull I B new
IsExtension I B P root target (Reached new) = IsExtended I B P new root × (base_weight I B new ≡ base_weight I B P + target)

-- the cuts of the packing
abbrev pub packing_of : Ascent → Packing
packing_of (Full P) = P
packing_of (Reached P) = P

-- whether the cuts reach the target
abbrev pub has_reached : Ascent → Bool
has_reached (Full P) = false
has_reached (Reached P) = true

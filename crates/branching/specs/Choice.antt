-- Where a branch is split.
use Rattle.std.specs.Prelude.{ℕ, ◌≤◌, Option, Some, None}
use Rattle.st_model.specs.declared.branch.Branch.{Branch}
use Rattle.st_model.specs.Network.{Network, IsVertex, pays}
use Rattle.cut_packing.specs.ProofTree.{IsSplit}

-- nothing is left to decide: the branch can be split nowhere
abbrev pub IsDecided : Network → Branch → Type 0
IsDecided I B = (v : ℕ) → ¬ IsSplit I B v

-- the branch can be split at v, and nowhere at a vertex that pays more
pub record IsChoice (I : Network) (B : Branch) (v : ℕ) : Type 0 where
  pub split : IsSplit I B v
  pub most : (w : ℕ) → IsSplit I B w → pays I w ≤ pays I v

-- the same of the vertices up to the last alone
abbrev pub IsChoiceTo : Network → Branch → ℕ → Option ℕ → Type 0
IsChoiceTo I B last None = (v : ℕ) → IsVertex last v → ¬ IsSplit I B v
IsChoiceTo I B last (Some v) = IsSplit I B v × ((w : ℕ) → IsVertex last w → IsSplit I B w → pays I w ≤ pays I v)

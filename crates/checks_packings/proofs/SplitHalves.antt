-- The halves of a branch at a split are branches.
use Rattle.st_model.specs.declared.branch.Branch.{Branch}
use Rattle.st_model.specs.declared.split_at.SplitAt.{SplitAt}
use Rattle.st_model.specs.declared.split_at.SplitAt.TheVariants.{Vertex, Link}
use Rattle.st_model.specs.Branch.{IsBranch, yes_half, no_half}
use Rattle.st_model.specs.Ground.{ground}
use Rattle.st_model.specs.Network.{Network, IsInstance}
use Rattle.st_model.proofs.Branches.{IsBranch-with_inside, IsBranch-with_outside, IsBranch-with_must, IsBranch-with_barred}
use Rattle.st_model.proofs.ThinGrowth.{linked-vertices}
use Rattle.cut_packing.specs.ProofTree.{IsSplitAt}

-- the half that says yes
pub yes : (I : Network) (B : Branch) (at : SplitAt) → IsInstance I → IsSplitAt I B at → IsBranch I B → IsBranch I (yes_half B at)
yes I B (Vertex v) instance may branch = IsBranch-with_inside (ground I) B v may.vertex may.undecided branch
yes I B (Link a b) instance may branch =
    let ends = linked-vertices I a b instance may.linked in
    IsBranch-with_must (ground I) B a b ends.0 ends.1 may.ordered may.linked may.low may.high may.no_must may.unbarred branch

-- the half that says no
pub no : (I : Network) (B : Branch) (at : SplitAt) → IsSplitAt I B at → IsBranch I B → IsBranch I (no_half B at)
no I B (Vertex v) may branch = IsBranch-with_outside (ground I) B v may.vertex may.undecided branch
no I B (Link a b) may branch = IsBranch-with_barred (ground I) B a b may.ordered may.linked may.no_must may.unbarred branch

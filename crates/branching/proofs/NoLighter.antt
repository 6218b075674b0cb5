-- The halves of a node are nodes.
use Rattle.std.proofs.Common.{ℕ, ◌≤◌, arith}
use Rattle.std.specs.Prelude.{IsFalse}
use Rattle.st_model.specs.declared.branch.Branch.{Branch}
use Rattle.st_model.specs.declared.split_at.SplitAt.{SplitAt}
use Rattle.st_model.specs.declared.split_at.SplitAt.TheVariants.{Vertex, Link}
use Rattle.st_model.specs.Network.{Network, IsInstance, is_required}
use Rattle.st_model.specs.Ground.{ground}
use Rattle.st_model.specs.Branch.{LeavesRequired, with_outside}
use Rattle.cut_packing.specs.ProofTree.{IsSplit, IsLinkSplit, IsSplitAt}
use Rattle.cut_packing.specs.Packing.{weight}
use Rattle.st_model.proofs.Branches.{IsBranch-with_inside, IsBranch-with_outside, IsBranch-with_must, IsBranch-with_barred}
use Rattle.st_model.proofs.Halves.{at_either}
use Rattle.st_model.proofs.ThinGrowth.{linked-vertices}
use Rattle.branching.specs.declared.node.Node.{Node}
use Rattle.branching.specs.Node.{IsNode, inside_half, outside_half, yes_node, no_node}
use Rattle.branching.specs.Laws.{HalvesAreNoLighter}
use Rattle.branching.proofs.Packings.{inside_fits, outside_fits, must_fits, barred_fits, inside_weighs, outside_weighs, must_weighs}

leaves_outside : (I : Network) (B : Branch) (v : ℕ) → IsFalse (is_required I v) → LeavesRequired I B → LeavesRequired I (with_outside B v)
leaves_outside I B v free leaves = at_either (λ w. IsFalse (is_required I w)) B.outside v free leaves

pub inside_node : (I : Network) (N : Node) (v id : ℕ) → IsNode I N → IsSplit I N.branch v → IsNode I (inside_half N v id)
inside_node I N v id node is_split = record {
  branch = IsBranch-with_inside (ground I) N.branch v is_split.vertex is_split.undecided node.branch;
  required = node.required;
  fits = inside_fits I N.branch N.packing v node.fits;
}

pub outside_node : (I : Network) (N : Node) (v id : ℕ) → IsNode I N → IsSplit I N.branch v → IsNode I (outside_half N v id)
outside_node I N v id node is_split = record {
  branch = IsBranch-with_outside (ground I) N.branch v is_split.vertex is_split.undecided node.branch;
  required = leaves_outside I N.branch v is_split.free node.required;
  fits = outside_fits I N.branch N.packing v node.fits;
}

pub must_node : (I : Network) (N : Node) (a b id : ℕ) → IsInstance I → IsNode I N → IsLinkSplit I N.branch a b → IsNode I (yes_node N (Link a b) id)
must_node I N a b id instance node is_split =
    let ends = linked-vertices I a b instance is_split.linked in
    record {
      branch = IsBranch-with_must (ground I) N.branch a b ends.0 ends.1 is_split.ordered is_split.linked is_split.low is_split.high is_split.no_must is_split.unbarred node.branch;
      required = node.required;
      fits = must_fits I N.branch N.packing a b node.fits;
    }

pub barred_node : (I : Network) (N : Node) (a b id : ℕ) → IsNode I N → IsLinkSplit I N.branch a b → IsNode I (no_node N (Link a b) id)
barred_node I N a b id node is_split = record {
  branch = IsBranch-with_barred (ground I) N.branch a b is_split.ordered is_split.linked is_split.no_must is_split.unbarred node.branch;
  required = node.required;
  fits = barred_fits I N.branch N.packing a b node.fits;
}

-- neither half is lighter
pub halves_weigh : (I : Network) (N : Node) (at : SplitAt) (id id' : ℕ) → IsNode I N → IsSplitAt I N.branch at
    → (weight I N.branch N.packing ≤ weight I (yes_node N at id).branch (yes_node N at id).packing) × (weight I N.branch N.packing ≤ weight I (no_node N at id').branch (no_node N at id').packing)
halves_weigh I N (Vertex v) id id' node is_split = (inside_weighs I N.branch N.packing v, outside_weighs I N.branch N.packing v node.fits is_split)
halves_weigh I N (Link a b) id id' node is_split = (must_weighs I N.branch N.packing a b, omega arith)

pub halves_are_no_lighter_lem : HalvesAreNoLighter
halves_are_no_lighter_lem I N (Vertex v) id id' instance node is_split = (
  record { node = inside_node I N v id node is_split; no_lighter = (halves_weigh I N (Vertex v) id id' node is_split).0 },
  record { node = outside_node I N v id' node is_split; no_lighter = (halves_weigh I N (Vertex v) id id' node is_split).1 },
)
halves_are_no_lighter_lem I N (Link a b) id id' instance node is_split = (
  record { node = must_node I N a b id instance node is_split; no_lighter = (halves_weigh I N (Link a b) id id' node is_split).0 },
  record { node = barred_node I N a b id' node is_split; no_lighter = (halves_weigh I N (Link a b) id id' node is_split).1 },
)

-- The law on the halves of a node.
use Rattle.std.specs.Prelude.{ℕ}
use Rattle.st_model.specs.declared.split_at.SplitAt.{SplitAt}
use Rattle.st_model.specs.Network.{Network, IsInstance}
use Rattle.cut_packing.specs.ProofTree.{IsSplitAt}
use Rattle.branching.specs.declared.node.Node.{Node}
use Rattle.branching.specs.Node.{IsNode, IsNoLighter, yes_node, no_node}

-- both halves of a node are nodes, and neither is lighter
abbrev pub HalvesAreNoLighter : Type 0
HalvesAreNoLighter = (I : Network) (N : Node) (at : SplitAt) (id id' : ℕ) → IsInstance I → IsNode I N → IsSplitAt I N.branch at → IsNoLighter I N (yes_node N at id) × IsNoLighter I N (no_node N at id')

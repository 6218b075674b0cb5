-- Nodes that a log can hold.
use Rattle.std.specs.Prelude.{[], None}
use Rattle.st_model.specs.Network.{Network}
use Rattle.cut_packing.specs.declared.packing.Packing.{Packing}
use Rattle.log_format.specs.Text.{IsWritablePacking}
use Rattle.branching.specs.declared.node.Node.{Node}
use Rattle.branching.specs.Node.{IsNode}

-- a node whose packing can be written in a log
pub record IsWritableNode (I : Network) (N : Node) : Type 0 where
  pub node : IsNode I N
  pub writable : IsWritablePacking N.packing

-- a packing without cuts
abbrev pub no_cuts : Packing
no_cuts = record { root = None; cuts = [] }

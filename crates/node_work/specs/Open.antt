-- Nodes that are worked on. Helpers' clauses cite this, and no public one.
use Rattle.std.specs.Prelude.{ℕ, ◌<◌}
use Rattle.st_model.specs.Network.{Network, IsInstance}
use Rattle.cut_packing.specs.Packing.{weight}
use Rattle.dual_ascent.specs.Extension.{IsRootFor}
use Rattle.branching.specs.declared.node.Node.{Node}
use Rattle.branching.specs.Choice.{IsChoice}
use Rattle.node_work.specs.declared.node.OpenNode.{OpenNode}
use Rattle.node_work.specs.Node.{IsWritableNode}

-- the node as it waits
abbrev pub as_node : OpenNode → Node
as_node o = record { id = o.id; branch = o.branch; packing = o.packing }

-- it weighs less than the least cost known, has a root for its cuts, and may split at the vertex given
pub record IsOpen (I : Network) (o : OpenNode) (least : ℕ) : Type 0 where
  pub instance : IsInstance I
  pub node : IsWritableNode I (as_node o)
  pub rooted : IsRootFor I o.branch o.packing o.root
  pub given : IsChoice I o.branch o.given
  pub light : weight I o.branch o.packing < least

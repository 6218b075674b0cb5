-- What the pool keeps of each node that waits in it.
use Rattle.st_model.specs.declared.branch.Branch.{Branch}
use Rattle.st_model.specs.Network.{Network}
use Rattle.branching.specs.declared.node.Node.{Node}
use Rattle.better_trees.specs.Part.{IsPartOf}
use Rattle.node_work.specs.Node.{IsWritableNode}

-- a node that a log can hold, of a part of the branch
pub record IsSound (I : Network) (R : Branch) (N : Node) : Type 0 where
  pub node : IsWritableNode I N
  pub part : IsPartOf R N.branch

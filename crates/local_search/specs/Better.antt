-- Trees that reach what a branch says and cost less, or no more, than another one.
use Rattle.std.specs.Prelude.{◌<◌, ◌≤◌}
use Rattle.st_model.specs.declared.branch.Branch.{Branch}
use Rattle.st_model.specs.declared.tree.Tree.{Tree}
use Rattle.st_model.specs.Arborescence.{IsTree, cost}
use Rattle.st_model.specs.Branch.{ReachesAsTold}
use Rattle.st_model.specs.Network.{Network}

-- a tree that reaches what the branch says and costs less than the old one
pub record IsCheaper (I : Network) (B : Branch) (old new : Tree) : Type 0 where
  pub tree : IsTree I new
  pub reaches : ReachesAsTold B new
  pub less : cost I new < cost I old

-- a tree that reaches what the branch says and costs no more than the old one
pub record IsNoDearer (I : Network) (B : Branch) (old new : Tree) : Type 0 where
  pub tree : IsTree I new
  pub reaches : ReachesAsTold B new
  pub no_more : cost I new ≤ cost I old

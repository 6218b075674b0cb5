use Rattle.arborescence.specs.DiNetwork.{di_ground}
use Rattle.checks_arborescence.proofs.AllTrees.{all_branch}
use Rattle.checks_arborescence.proofs.arborescence_tests.first.Goals as goal

pub di_first_tree-requires-clause-branch : goal.di_first_tree-requires-clause-branch
di_first_tree-requires-clause-branch c = rw c.in_ok-branch.ensures (all_branch (di_ground c.args.instance.now))

use Rattle.arborescence.specs.DiNetwork.{di_ground}
use Rattle.checks_arborescence.proofs.AllTrees.{all_branch, all_leave}
use Rattle.checks_arborescence.proofs.arborescence_tests.raised.Goals as goal

pub di_ascend-requires-clause-branch : goal.di_ascend-requires-clause-branch
di_ascend-requires-clause-branch c = rw c.requires (all_branch (di_ground c.args.instance.now))

pub di_ascend-requires-clause-required : goal.di_ascend-requires-clause-required
di_ascend-requires-clause-required c = rw c.requires (all_leave (di_ground c.args.instance.now))

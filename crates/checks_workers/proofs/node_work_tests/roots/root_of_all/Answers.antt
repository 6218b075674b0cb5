use Rattle.st_model.specs.Branch.{all_trees}
use Rattle.node_work.proofs.Heavier.{no_cuts_fit}
use Rattle.checks_workers.proofs.node_work_tests.roots.root_of_all.Goals as goal

pub root_of-requires : goal.root_of-requires
root_of-requires c = rw (c.in_ok-all.ensures, c.all.ensures, c.no_cuts.ensures) (no_cuts_fit c.args.instance.now all_trees)

use Rattle.node_work.proofs.Heavier.{all_extendable}
use Rattle.checks_workers.proofs.node_work_tests.refining.raised_in.Goals as goal

pub raise-requires : goal.raise-requires
raise-requires g c =
    rw (c.in_ok-branch.ensures, c.all.ensures, c.no_cuts.ensures) (all_extendable c.args.whole.now.instance c.args.root 100 c.requires)

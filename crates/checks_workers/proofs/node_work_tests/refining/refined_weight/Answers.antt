use Rattle.node_work.proofs.Heavier.{all_extendable}
use Rattle.checks_workers.proofs.node_work_tests.refining.refined_weight.Goals as goal

pub raise_refined-requires-clause-able : goal.raise_refined-requires-clause-able
raise_refined-requires-clause-able g c κs within =
    rw (c.in_ok-branch.ensures, c.all.ensures, c.no_cuts.ensures) (all_extendable c.args.whole.now.instance c.args.root c.args.least c.requires)

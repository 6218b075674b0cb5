use Rattle.node_work.proofs.refining.raise_refined.Goals as goal

pub returns : goal.returns
returns g c = c.in_ok-refined.ensures.extends c.args.packing c.requires.able c.in_ok-raised.ensures

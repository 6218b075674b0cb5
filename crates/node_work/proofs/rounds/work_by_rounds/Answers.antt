use Rattle.node_work.proofs.rounds.work_by_rounds.Goals as goal

pub loop-index-preserved : goal.loop-index-preserved
loop-index-preserved g c = (c.in_ok-rounds.ensures.refined.extends c.args.packing c.requires.able c.loop-index.invariant.0, c.in_ok-rounds.ensures.better)

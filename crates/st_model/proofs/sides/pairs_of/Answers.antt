use Rattle.st_model.proofs.Pairs.{kept_more}
use Rattle.st_model.proofs.sides.pairs_of.Goals as goal

pub loop-u-preserved : goal.loop-u-preserved
loop-u-preserved c u v =
    rw c.in_ok-insert.ensures.keys (kept_more c.args.pairs.now c.loop-u.set.keys c.loop-u.u-index (0, 0) c.min.result c.max.result c.loop-u-test.true c.min.ensures c.max.ensures c.loop-u.invariant u v)

use Rattle.std.proofs.Common.{None}
use Rattle.arborescence.proofs.LeastEntering.{least_over_more}
use Rattle.arborescence.proofs.entering.least_entering.Goals as goal

pub loop-head-preserved : goal.loop-head-preserved
loop-head-preserved c =
    let heads = c.members-head-items.result.now in
    rw (least_over_more c.args.arcs.now c.args.set.now.members None heads c.loop-head.head-index c.loop-head-test.true, ← c.loop-head.invariant, ← c.at.ensures) c.least_into-least.ensures

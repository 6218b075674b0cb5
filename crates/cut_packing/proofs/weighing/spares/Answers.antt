use Rattle.std.proofs.Common.{arith}
use Rattle.st_model.proofs.Costs.{total_more}
use Rattle.cut_packing.specs.Packing.{spare}
use Rattle.cut_packing.proofs.weighing.spares.Goals as goal

pub loop-pair-preserved : goal.loop-pair-preserved
loop-pair-preserved c =
    let more = total_more (spare c.args.instance.now c.args.cuts.now) c.args.pairs.now c.loop-pair.pair-index (0, 0) c.loop-pair-test.true in
    record { sum = omega (arith, more, c.spare.ensures, c.from-sum.ensures, c.loop-pair.invariant.sum); bound = omega (arith, c.from-sum.ensures, c.loop-pair.invariant.bound) }

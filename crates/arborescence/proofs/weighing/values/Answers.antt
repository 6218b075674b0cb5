use Rattle.std.proofs.Common.{ap, arith}
use Rattle.st_model.proofs.Costs.{total_more}
use Rattle.arborescence.proofs.weighing.values.Goals as goal

pub loop-cut-preserved : goal.loop-cut-preserved
loop-cut-preserved c =
    let more = total_more (λ c. c.y) c.args.cuts.now c.loop-cut.cut-index c.cut-item.result c.loop-cut-test.true in
    record { sum = omega (arith, more, ap (λ c. c.y) c.cut-item.is); bound = omega arith }

use Rattle.std.proofs.Common.{◌^◌, ◌<◌, ap, arith}
use Rattle.std.proofs.lemmas.List.Elements.{All-more}
use Rattle.st_model.proofs.Costs.{total_more}
use Rattle.directed_search.proofs.weighing.worth.Goals as goal

pub loop-cut-preserved : goal.loop-cut-preserved
loop-cut-preserved c =
    let more = total_more (λ c. c.y) c.args.cuts.now c.loop-cut.cut-index c.cut-item.result c.loop-cut-test.true in
    let same = ap (λ c. c.y) c.cut-item.is in
    let fits : c.cut-item.result.y < 2 ^ 64 = grind arith in
    record { sum = omega (arith, more, same); bound = omega arith; small = All-more (λ c. c.y < 2 ^ 64) c.args.cuts.now c.loop-cut.cut-index c.cut-item.result c.loop-cut-test.true c.loop-cut.invariant.small (omega (arith, fits, same)) }

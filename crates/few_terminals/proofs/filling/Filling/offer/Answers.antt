use Rattle.std.proofs.Common.{arith}
use Rattle.few_terminals.proofs.Marking.{set_cost}
use Rattle.few_terminals.proofs.filling.Filling.offer.Goals as goal

pub returns-in_ok-push-clause-fewer : goal.returns-in_ok-push-clause-fewer
returns-in_ok-push-clause-fewer c =
    let mark = c.index-mark.result.now in
    let step = set_cost c.args.self.now.marks.items c.args.to mark (record { cost = c.args.cost; way = c.args.way; place = mark.place }) c.requires c.index-mark.ensures in
    let longer = c.in_ok-push.ensures.len in
    let less = c.if-cost-mark.true in
    omega (arith, step, longer, less)

use Rattle.std.proofs.Common.{arith}
use Rattle.few_terminals.proofs.Marking.{set_cost}
use Rattle.few_terminals.proofs.filling.Filling.settle.Goals as goal

pub returns-clause-same : goal.returns-clause-same
returns-clause-same c =
    let mark = c.index-mark.result.now in
    let step = set_cost c.args.self.now.marks.items c.args.vertex mark (record { cost = mark.cost; way = mark.way; place = c.in_ok-place.place }) c.requires c.index-mark.ensures in
    omega (arith, step)

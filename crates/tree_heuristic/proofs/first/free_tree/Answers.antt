use Rattle.std.proofs.Common.{arith, ap}
use Rattle.st_model.specs.Arborescence.{cost}
use Rattle.tree_heuristic.proofs.first.free_tree.Goals as goal

pub returns-in-Some-2-clause-lone : goal.returns-in-Some-2-clause-lone
returns-in-Some-2-clause-lone c s none reaches present =
    let lone = c.in-Some.lone in
    let less = c.costs_less.ensures.0 c.if-costs_less.true in
    let least = c.in-Some.ensures.lone s none reaches present in
    let same = ap (λ arcs. cost c.args.store.now.network (record { start = lone.start; arcs = arcs })) c.in-Some.ensures.start.2 in
    omega arith

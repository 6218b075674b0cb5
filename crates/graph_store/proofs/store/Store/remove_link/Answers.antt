use Rattle.std.proofs.Common.{arith}
use Rattle.graph_store.proofs.PutLinks.{fewer, graph_removed, total-removed}
use Rattle.graph_store.proofs.store.Store.remove_link.Goals as goal

pub invariant_of-self : goal.invariant_of-self
invariant_of-self c = graph_removed c.self.inside.links c.remove.new.self c.self.inside.needs.items c.self.inside.present.items c.args.a c.args.b c.remove.ensures.out c.remove.ensures.once c.self.invariant

pub returns-clause-graph : goal.returns-clause-graph
returns-clause-graph c = invariant_of-self c

pub returns-clause-fewer : goal.returns-clause-fewer
returns-clause-fewer c = rw (← c.self.view_is) (fewer c.self.inside.links c.remove.new.self c.args.a c.args.b c.remove.ensures.out)

pub returns-clause-amount : goal.returns-clause-amount
returns-clause-amount c =
    let costs = total-removed c.self.inside.links c.remove.new.self c.args.a c.args.b c.remove.ensures.out in
    let count = c.remove.ensures.out.count in
    rw (← c.self.view_is, count) (omega arith)

use Rattle.graph_store.proofs.Keeping.{amount_put, needs_put}
use Rattle.graph_store.proofs.store.Store.set_need.Goals as goal

pub invariant_of-self : goal.invariant_of-self
invariant_of-self c = needs_put c.self.inside.links c.self.inside.needs.items c.self.inside.present.items c.args.vertex c.args.need (rw (← c.self.view_is) at c.requires.vertex) c.self.invariant (rw (← c.self.view_is) at c.requires.amount)

pub returns-clause-graph : goal.returns-clause-graph
returns-clause-graph c = invariant_of-self c

pub returns-clause-amount : goal.returns-clause-amount
returns-clause-amount c = rw (← c.self.view_is) (amount_put c.self.inside.links c.self.inside.needs.items c.self.inside.present.items c.args.vertex c.args.need (rw (← c.self.view_is) at c.requires.vertex) c.self.invariant)

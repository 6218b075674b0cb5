use Rattle.graph_store.proofs.store.Store.neighbours.Goals as goal

pub returns-clause-halves : goal.returns-clause-halves
returns-clause-halves c = rw (← c.self.view_is) (c.halves.ensures c.self.inside.needs.items)

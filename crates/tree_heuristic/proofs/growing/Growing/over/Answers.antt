use Rattle.tree_heuristic.proofs.growing.Growing.over.Goals as goal

pub take-requires-clause-growing : goal.take-requires-clause-growing
take-requires-clause-growing c = c.next.ensures.growing c.args.store.now.network.n c.loop-cost.invariant

pub take-requires-clause-vertex : goal.take-requires-clause-vertex
take-requires-clause-vertex c = c.in-Some.ensures.vertex c.args.store.now.network.n c.loop-cost.invariant

use Rattle.node_work.proofs.plan.Plan.of.Goals as goal

pub invariant_of-result : goal.invariant_of-result
invariant_of-result c = rw c.vertices.ensures.count c.requires

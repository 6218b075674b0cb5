use Rattle.node_pool.proofs.Balancing.{puts}
use Rattle.node_pool.proofs.lane.Owner.put.Goals as goal

pub push_as-requires-clause-pushes : goal.push_as-requires-clause-pushes
push_as-requires-clause-pushes g c = puts _ _ _ c.self.invariant.4 c.self.invariant.1

use Rattle.node_pool.proofs.Balancing.{merges}
use Rattle.node_pool.proofs.lane.Owner.take_in.Goals as goal

pub absorb-requires-clause-rule : goal.absorb-requires-clause-rule
absorb-requires-clause-rule g c = merges _ _ _ _ c.self.invariant.4 c.self.invariant.1

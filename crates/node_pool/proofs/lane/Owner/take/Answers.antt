use Rattle.node_pool.proofs.Balancing.{finds, gets}
use Rattle.node_pool.proofs.lane.Owner.take.Goals as goal

pub pop_as-requires-clause-fifo : goal.pop_as-requires-clause-fifo
pop_as-requires-clause-fifo g c _ = gets _ _ c.self.invariant.4 c.self.invariant.1

pub pop_as-requires-clause-empty : goal.pop_as-requires-clause-empty
pop_as-requires-clause-empty g c = finds _ _

use Rattle.std.proofs.Common.{arith}
use Rattle.node_pool.proofs.Balancing.{steals}
use Rattle.node_pool.proofs.lane.Thief.attempt.Goals as goal

pub steal_as-requires-clause-takes : goal.steal_as-requires-clause-takes
steal_as-requires-clause-takes g c = steals _ _ (let one = c.self.invariant.1 in omega arith)

use Rattle.std.proofs.Common.{rules}
use Rattle.node_pool.proofs.Balancing.{forks}
use Rattle.node_pool.proofs.lane.Owner.thief.Goals as goal

pub another-token-requires : goal.another-token-requires
another-token-requires g c = forks _ _ (search rules)

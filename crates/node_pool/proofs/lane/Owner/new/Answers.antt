use Rattle.node_pool.proofs.Balancing.{begins}
use Rattle.node_pool.proofs.lane.Owner.new.Goals as goal

pub fifo_as-requires : goal.fifo_as-requires
fifo_as-requires g c = begins

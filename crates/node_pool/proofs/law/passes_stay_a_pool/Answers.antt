use Rattle.node_pool.proofs.Stations.{passes_stay}
use Rattle.node_pool.proofs.law.passes_stay_a_pool.Goals as goal

pub returns : goal.returns
returns c = passes_stay

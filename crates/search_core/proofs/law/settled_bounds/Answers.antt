use Rattle.search_core.proofs.Running.{settled_bounds_lem}
use Rattle.search_core.proofs.law.settled_bounds.Goals as goal

pub returns : goal.returns
returns c = settled_bounds_lem

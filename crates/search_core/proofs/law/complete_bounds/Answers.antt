use Rattle.search_core.proofs.Reading.{bounds_lem}
use Rattle.search_core.proofs.law.complete_bounds.Goals as goal

pub returns : goal.returns
returns c = bounds_lem

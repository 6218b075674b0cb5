use Rattle.search_core.proofs.Running.{events_keep_lem}
use Rattle.search_core.proofs.law.events_keep.Goals as goal

pub returns : goal.returns
returns c = events_keep_lem

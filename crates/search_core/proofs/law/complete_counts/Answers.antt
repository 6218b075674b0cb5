use Rattle.search_core.proofs.Counts.{counts_lem}
use Rattle.search_core.proofs.law.complete_counts.Goals as goal

pub returns : goal.returns
returns c = counts_lem

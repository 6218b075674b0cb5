use Rattle.search_core.proofs.Few.{few_lem}
use Rattle.search_core.proofs.law.complete_is_few.Goals as goal

pub returns : goal.returns
returns c = few_lem

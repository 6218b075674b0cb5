use Rattle.search_core.proofs.Few.{few_with_links_lem}
use Rattle.search_core.proofs.law.complete_is_few_with_links.Goals as goal

pub returns : goal.returns
returns c = few_with_links_lem

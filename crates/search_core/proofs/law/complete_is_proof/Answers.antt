use Rattle.search_core.proofs.Reading.{complete_lem}
use Rattle.search_core.proofs.law.complete_is_proof.Goals as goal

pub returns : goal.returns
returns c = complete_lem

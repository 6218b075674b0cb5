use Rattle.arborescence.proofs.InWords.{packings_in_words}
use Rattle.arborescence.proofs.law.packings_bound.Goals as goal

pub returns : goal.returns
returns c = packings_in_words

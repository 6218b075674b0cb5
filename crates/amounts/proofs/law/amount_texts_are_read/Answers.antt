use Rattle.amounts.proofs.Reread.{texts_are_read}
use Rattle.amounts.proofs.law.amount_texts_are_read.Goals as goal

pub returns : goal.returns
returns c = texts_are_read

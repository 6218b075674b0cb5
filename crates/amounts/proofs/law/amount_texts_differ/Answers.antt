use Rattle.amounts.proofs.Reread.{texts_differ}
use Rattle.amounts.proofs.law.amount_texts_differ.Goals as goal

pub returns : goal.returns
returns c = texts_differ

use Rattle.dimacs_writer.proofs.OneText.{one_text}
use Rattle.dimacs_writer.proofs.law.tree_has_one_text.Goals as goal

pub returns : goal.returns
returns c = one_text

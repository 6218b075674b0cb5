use Rattle.arborescence.proofs.InWords.{walls_in_words}
use Rattle.arborescence.proofs.law.walls_leave_no_tree.Goals as goal

pub returns : goal.returns
returns c = walls_in_words

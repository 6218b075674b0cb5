use Rattle.log_format.proofs.ItemLaws.{items_are_lines_lem}
use Rattle.log_format.proofs.law.items_are_lines.Goals as goal

pub returns : goal.returns
returns c = items_are_lines_lem

use Rattle.log_format.proofs.ItemLaws.{line_items_lem}
use Rattle.log_format.proofs.law.line_items.Goals as goal

pub returns : goal.returns
returns c = line_items_lem

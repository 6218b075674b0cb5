use Rattle.log_format.proofs.ItemLaws.{one_item_lem}
use Rattle.log_format.proofs.law.one_item.Goals as goal

pub returns : goal.returns
returns c = one_item_lem

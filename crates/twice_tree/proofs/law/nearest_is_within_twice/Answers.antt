use Rattle.twice_tree.proofs.Within.{nearest_is_within_twice}
use Rattle.twice_tree.proofs.law.nearest_is_within_twice.Goals as goal

pub returns : goal.returns
returns c = nearest_is_within_twice

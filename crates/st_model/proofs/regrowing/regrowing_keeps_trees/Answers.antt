use Rattle.st_model.proofs.RegrowLaws.{each_tree_regrows}
use Rattle.st_model.proofs.RegrowAlike.{regrown_is_alike}
use Rattle.st_model.proofs.regrowing.regrowing_keeps_trees.Goals as goal

pub returns : goal.returns
returns c = record { each = each_tree_regrows; alike = regrown_is_alike }

use Rattle.st_model.specs.Lists.{has}
use Rattle.st_model.specs.Branch.{AreThose}
use Rattle.tree_heuristic.proofs.listing.ascending.Given as goal

abbrev pub invariant-loop-before : goal.invariant-loop-before
invariant-loop-before l = AreThose (has l.set.members) l.before l.list.items

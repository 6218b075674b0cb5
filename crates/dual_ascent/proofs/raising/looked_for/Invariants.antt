use Rattle.st_model.specs.Lists.{has}
use Rattle.st_model.specs.Branch.{AreThose}
use Rattle.dual_ascent.proofs.raising.looked_for.Given as goal

abbrev pub invariant-loop-before : goal.invariant-loop-before
invariant-loop-before l = AreThose (has l.set.members) l.before l.out.items

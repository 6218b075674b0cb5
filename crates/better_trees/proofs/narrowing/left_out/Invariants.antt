use Rattle.st_model.specs.Branch.{AreThose}
use Rattle.better_trees.specs.Part.{is_left_out}
use Rattle.better_trees.proofs.narrowing.left_out.Given as goal

abbrev pub invariant-loop-before : goal.invariant-loop-before
invariant-loop-before l = AreThose (is_left_out l.instance l.branch l.reached.members) l.before l.out.items

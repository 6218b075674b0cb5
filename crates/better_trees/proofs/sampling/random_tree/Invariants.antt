use Rattle.std.proofs.Common.{IfSome}
use Rattle.better_trees.specs.Better.{IsBetterAt}
use Rattle.better_trees.proofs.sampling.random_tree.Given as goal

abbrev pub invariant-loop-is_between : goal.invariant-loop-is_between
invariant-loop-is_between g l = IfSome l.best (IsBetterAt l.fn.place l.fn.least)

use Rattle.std.proofs.Common.{IfSome}
use Rattle.better_trees.specs.Better.{IsBetterAt}
use Rattle.better_trees.proofs.wandering.wandered_tree.Given as goal

abbrev pub invariant-loop-turn : goal.invariant-loop-turn
invariant-loop-turn g l = IfSome l.best (IsBetterAt l.fn.place l.fn.incumbent.cost)

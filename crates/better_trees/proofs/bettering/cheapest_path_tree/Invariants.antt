use Rattle.better_trees.specs.Better.{IsTreeAt}
use Rattle.better_trees.proofs.bettering.cheapest_path_tree.Given as goal

abbrev pub invariant-loop-growth : goal.invariant-loop-growth
invariant-loop-growth l = IsTreeAt l.fn.place l.best

use Rattle.std.specs.Prelude.{All, IfSome}
use Rattle.better_trees.specs.Grown.{IsGrown}
use Rattle.better_trees.specs.Better.{IsBetterAt}
use Rattle.better_trees.proofs.sampling.best_grown.Given as goal

abbrev pub invariant-loop-candidate : goal.invariant-loop-candidate
invariant-loop-candidate g l =
    (goal.iterator-loop-candidate g).can_next l.candidate-iterator × (goal.iterator-loop-candidate g).is_finite l.candidate-iterator
    × All (IsGrown l.fn.place) l.candidate-iterator.rest.items
    × IfSome l.best (IsBetterAt l.fn.place l.fn.least)

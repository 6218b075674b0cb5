use Rattle.arborescence.proofs.Pruned.{IsPruning}
use Rattle.arborescence.proofs.pruning.pruned.Given as goal

abbrev pub invariant-loop-left : goal.invariant-loop-left
invariant-loop-left l = IsPruning l.instance.n l.branch l.instance.root l.chosen l.left l.kept.items

abbrev pub decreases-loop-left : goal.decreases-loop-left
decreases-loop-left l = l.left

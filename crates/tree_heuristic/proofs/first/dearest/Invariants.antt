use Rattle.tree_heuristic.specs.Spreading.{IsDearest}
use Rattle.tree_heuristic.proofs.first.dearest.Given as goal

abbrev pub invariant-loop-before : goal.invariant-loop-before
invariant-loop-before l = IsDearest l.store l.branch.outside l.before l.best l.prize

use Rattle.branching.specs.Choice.{IsChoiceTo}
use Rattle.branching.proofs.choosing.choose.Given as goal

-- the choice among the vertices so far
abbrev pub invariant-loop-before : goal.invariant-loop-before
invariant-loop-before l = IsChoiceTo l.instance l.node.branch l.before l.best

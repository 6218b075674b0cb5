use Rattle.arborescence.specs.Ascending.{HasRaised}
use Rattle.arborescence.proofs.smallest.raise_smallest.Given as goal

abbrev pub invariant-loop-turn : goal.invariant-loop-turn
invariant-loop-turn l = HasRaised l.instance l.branch l.fn.raising l.raising

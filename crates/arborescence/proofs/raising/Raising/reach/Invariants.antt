use Rattle.arborescence.specs.Ascending.{HasRaised}
use Rattle.arborescence.proofs.raising.Raising.reach.Given as goal

abbrev pub invariant-loop-self : goal.invariant-loop-self
invariant-loop-self l = HasRaised l.instance l.branch l.initial.self l.self

abbrev pub decreases-loop-self : goal.decreases-loop-self
decreases-loop-self l = l.self.room

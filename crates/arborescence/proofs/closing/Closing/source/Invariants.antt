use Rattle.arborescence.proofs.Sources.{IsGathered, size}
use Rattle.arborescence.proofs.closing.Closing.source.Given as goal

abbrev pub invariant-loop-set : goal.invariant-loop-set
invariant-loop-set l = IsGathered l.instance l._branch l.self.tails l.here l.set

abbrev pub decreases-loop-set : goal.decreases-loop-set
decreases-loop-set l = size l.instance.n l.set.members

use Rattle.twice_tree.specs.Joining.{IsJoining, waiting}
use Rattle.twice_tree.proofs.joining.Joining.over.Given as goal

abbrev pub invariant-loop-alloc : goal.invariant-loop-alloc
invariant-loop-alloc l = IsJoining l.store.network l.cells l.joining l.joining.opening.offers

abbrev pub decreases-loop-alloc : goal.decreases-loop-alloc
decreases-loop-alloc l = waiting l.store.network l.joining

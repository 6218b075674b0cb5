use Rattle.tree_heuristic.specs.Growing.{IsGrowing, waiting}
use Rattle.tree_heuristic.proofs.growing.Growing.over.Given as goal

abbrev pub invariant-loop-cost : goal.invariant-loop-cost
invariant-loop-cost l = IsGrowing l.store.network.n l.growing

abbrev pub decreases-loop-cost : goal.decreases-loop-cost
decreases-loop-cost l = waiting l.growing

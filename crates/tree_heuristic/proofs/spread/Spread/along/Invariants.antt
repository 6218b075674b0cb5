use Rattle.std.proofs.Common.{◌≡◌, ◌+◌, ◌-◌}
use Rattle.tree_heuristic.specs.Spreading.{IsSpread}
use Rattle.tree_heuristic.proofs.spread.Spread.along.Given as goal

abbrev pub invariant-loop-tail : goal.invariant-loop-tail
invariant-loop-tail l = IsSpread l.store l.branch.outside l.spread × (l.spread.start ≡ l.start)

abbrev pub decreases-loop-tail : goal.decreases-loop-tail
decreases-loop-tail l = l.store.network.n + 1 - l.next

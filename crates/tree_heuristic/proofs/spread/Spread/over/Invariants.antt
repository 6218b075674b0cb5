use Rattle.std.proofs.Common.{◌+◌, ◌-◌}
use Rattle.tree_heuristic.specs.Spreading.{IsUnderWay}
use Rattle.tree_heuristic.proofs.spread.Spread.over.Given as goal

abbrev pub invariant-loop-tail : goal.invariant-loop-tail
invariant-loop-tail l = IsUnderWay l.store l.branch.outside l.start l.spread l.next

abbrev pub decreases-loop-tail : goal.decreases-loop-tail
decreases-loop-tail l = l.store.network.n + 1 - l.next

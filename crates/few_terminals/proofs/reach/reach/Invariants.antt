use Rattle.std.proofs.Common.{◌≡◌, ◌+◌, ◌-◌}
use Rattle.few_terminals.specs.Reach.{IsReaching}
use Rattle.few_terminals.proofs.reach.reach.Given as goal

abbrev pub invariant-loop-tail : goal.invariant-loop-tail
invariant-loop-tail l = record {
  reaching : IsReaching l.store.network l.root l.reached.members l.next;
  count : l.reached.count ≡ l.store.network.n + 1;
}

abbrev pub decreases-loop-tail : goal.decreases-loop-tail
decreases-loop-tail l = l.store.network.n + 1 - l.next

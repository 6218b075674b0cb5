use Rattle.std.specs.BinaryHeap.{heap_items}
use Rattle.few_terminals.specs.Entries.{meanings, HaveParts, GoesOn}
use Rattle.few_terminals.specs.Filling.{IsFilling, Falls, weight}
use Rattle.few_terminals.proofs.table.fill_row.Given as goal

abbrev pub invariant-loop-cost : goal.invariant-loop-cost
invariant-loop-cost l = record {
  parts : HaveParts l.store.network l.terminals (meanings l.store.network l.terminals l.entries.items);
  goes_on : GoesOn (meanings l.store.network l.terminals l.initial.entries.items) (meanings l.store.network l.terminals l.entries.items);
  filling : IsFilling l.store.network l.terminals (meanings l.store.network l.terminals l.entries.items) l.bits l.filling.marks.items (heap_items l.filling.queue);
  falls : Falls l.initial.filling.marks.items l.filling.marks.items;
}

abbrev pub decreases-loop-cost : goal.decreases-loop-cost
decreases-loop-cost l = weight l.filling

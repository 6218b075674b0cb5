use Rattle.std.proofs.Common.{◌≡◌}
use Rattle.std.specs.Prelude.{All}
use Rattle.std.specs.BinaryHeap.{heap_items, heap_len}
use Rattle.dual_ascent.specs.Turns.{AreLeading, IsWaiting, IsGrowth, KeepsWaiting, Entry}
use Rattle.dual_ascent.proofs.turning.next_fresh.Given as goal

abbrev pub invariant-loop : goal.invariant-loop
invariant-loop l = record {
  waiting : All (λ (e : Entry). IsWaiting l.fn.arcs e.0) (heap_items l.queue);
  keeps : KeepsWaiting l.fn.arcs (heap_items l.fn.queue) (heap_items l.queue);
  len : heap_len l.queue ≡ heap_len l.fn.queue;
  growth : IsGrowth l.fn.arcs l.growth;
  leading : AreLeading l.fn.arcs l.growth.known.leads.items (heap_items l.queue);
}

use Rattle.std.proofs.Common.{◌+◌}
use Rattle.std.specs.BinaryHeap.{heap_items, heap_len}
use Rattle.dual_ascent.specs.Turns.{AreLeading, AreWaiting, IsGrowth}
use Rattle.dual_ascent.proofs.SoFar.{AreSoFar}
use Rattle.dual_ascent.proofs.ascending.ascend.Given as goal

abbrev pub invariant-loop-room : goal.invariant-loop-room
invariant-loop-room l = record {
  so_far : AreSoFar l.fn.arcs l.arcs l.fn.twins l.twins l.target l.room l.cuts.items;
  waiting : AreWaiting l.arcs l.twins (heap_items l.queue);
  growth : IsGrowth l.arcs l.growth;
  leading : AreLeading l.arcs l.growth.known.leads.items (heap_items l.queue);
}

abbrev pub decreases-loop-room : goal.decreases-loop-room
decreases-loop-room l = l.room + heap_len l.queue

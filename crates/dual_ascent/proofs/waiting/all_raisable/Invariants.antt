use Rattle.std.specs.BinaryHeap.{heap_items}
use Rattle.dual_ascent.proofs.Queued.{AreListed}
use Rattle.dual_ascent.proofs.waiting.all_raisable.Given as goal

abbrev pub invariant-loop-before : goal.invariant-loop-before
invariant-loop-before l = AreListed l.arcs l.twins l.before (heap_items l.queue)

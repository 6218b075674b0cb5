use Rattle.std.specs.BinaryHeap.{heap_items}
use Rattle.dual_ascent.specs.Searching.{IsSearch, still}
use Rattle.dual_ascent.proofs.searching.distances_to.Given as goal

abbrev pub invariant-loop-distance : goal.invariant-loop-distance
invariant-loop-distance l = IsSearch l.arcs l.vertex l.target (heap_items l.search.queue) l.search.least.items

abbrev pub decreases-loop-distance : goal.decreases-loop-distance
decreases-loop-distance l = still l.search

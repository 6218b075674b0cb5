use Rattle.std.specs.BinaryHeap.{heap_items}
use Rattle.tree_heuristic.proofs.Waiting.{queued_pop}
use Rattle.tree_heuristic.proofs.growing.Growing.next.Goals as goal

pub returns-clause-growing : goal.returns-clause-growing
returns-clause-growing c n g = record {
  best_long = g.best_long;
  from_long = g.from_long;
  joined_long = g.joined_long;
  come_from = g.come_from;
  queued = queued_pop n (heap_items c.args.self.now.queue) (heap_items c.pop.new.self) c.in_ok-offer.field-0 c.in_ok-offer.ensures.permutation g.queued;
}

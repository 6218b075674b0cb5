use Rattle.std.specs.BinaryHeap.{heap_items}
use Rattle.twice_tree.proofs.Cheapest.{cheapest_first}
use Rattle.twice_tree.proofs.offers.Offers.next.Goals as goal

pub returns-clause-cheapest : goal.returns-clause-cheapest
returns-clause-cheapest c = rw (← c.self.view_is) (cheapest_first c.in_ok-offer.field-0 (heap_items c.self.inside.waiting) (c.in_ok-offer.ensures.heap_order c.self.invariant).1)

use Rattle.std.specs.BinaryHeap.{heap_items}
use Rattle.dual_ascent.proofs.Turned.{first_waiting, turn_made}
use Rattle.dual_ascent.proofs.turning.take_turn.Goals as goal

pub look-requires-clause-waiting : goal.look-requires-clause-waiting
look-requires-clause-waiting c = first_waiting c.args.arcs.now (heap_items c.args.queue.now) (heap_items c.next.new.queue) c.in-Some.waiting c.in-Some.ensures.moved c.requires.waiting

pub returns-in_ok-look-in-Some-clause-turn : goal.returns-in_ok-look-in-Some-clause-turn
returns-in_ok-look-in-Some-clause-turn c =
    (turn_made c.args.arcs.now (heap_items c.args.queue.now) (heap_items c.next.new.queue) c.in-Some.waiting c.in-Some.ensures.moved c.requires.waiting c.args.growth.now.known.leads.items c.look.new.growth c.in_ok-look-in-Some.field-0 c.requires.leading c.in_ok-look-in-Some.ensures.same c.in_ok-look-in-Some.ensures.looked, c.in-Some.ensures.len)

use Rattle.std.proofs.Common.{arith}
use Rattle.std.specs.BinaryHeap.{heap_items}
use Rattle.dual_ascent.proofs.Turned.{turn_after, keeps_back, all_back, leading_back}
use Rattle.dual_ascent.proofs.turning.next_fresh.Goals as goal

pub loop-preserved : goal.loop-preserved
loop-preserved c =
    let D = c.args.arcs.now in
    let g = c.take_turn.new.growth in
    let old = heap_items c.loop.queue in
    let rest = heap_items c.take_turn.new.queue in
    let back = heap_items c.push.new.self in
    let turn = rw c.in-Some.is at c.in_ok-turn.ensures.turn in
    let pushed = c.in_ok-push.ensures.permutation in
    record {
      waiting = all_back D g old rest back c.in-Some.turn turn.0 pushed;
      keeps = keeps_back D g old rest back c.in-Some.turn turn.0 pushed (heap_items c.args.queue.now) c.loop.invariant.keeps;
      len = omega (arith, c.in_ok-push.ensures.len, turn.1, c.loop.invariant.len);
      growth = c.in_ok-turn.ensures.growth;
      leading = leading_back D g old rest back c.in-Some.turn turn.0 pushed c.if-turn.false;
    }

pub returns-clause-turn : goal.returns-clause-turn
returns-clause-turn c =
    let turn = rw c.in-Some-2.is at c.in_ok-turn-2.ensures.turn in
    (turn_after c.args.arcs.now c.take_turn-2.new.growth (heap_items c.args.queue.now) (heap_items c.loop.queue) (heap_items c.take_turn-2.new.queue) c.in-Some-2.turn c.loop.invariant.keeps turn.0, omega (arith, turn.1, c.loop.invariant.len))

pub returns-then-turn-clause-turn : goal.returns-then-turn-clause-turn
returns-then-turn-clause-turn c =
    let turn = rw c.in-Some.is at c.in_ok-turn.ensures.turn in
    (turn_after c.args.arcs.now c.take_turn.new.growth (heap_items c.args.queue.now) (heap_items c.loop.queue) (heap_items c.take_turn.new.queue) c.in-Some.turn c.loop.invariant.keeps turn.0, omega (arith, turn.1, c.loop.invariant.len))

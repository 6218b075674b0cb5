use Rattle.std.proofs.Common.{refl, arith}
use Rattle.std.specs.BinaryHeap.{heap_items}
use Rattle.std.proofs.lemmas.Bool.{iff_false}
use Rattle.dual_ascent.proofs.Queued.{listed_none, listed_more, listed_past, all_listed}
use Rattle.dual_ascent.proofs.waiting.all_raisable.Goals as goal
use Rattle.dual_ascent.proofs.waiting.all_raisable.Goals.{then-is_raisable+in_ok-push, else-is_raisable}

pub loop-before-init : goal.loop-before-init
loop-before-init c = rw c.new-queue.ensures.items (listed_none c.args.arcs.now c.args.twins.now c.vertices.ensures.digraph c.requires)

pub loop-before-preserved : goal.loop-before-preserved
loop-before-preserved c =
    let D = c.args.arcs.now in
    let E = c.args.twins.now in
    let k = c.loop-before.before in
    let queue = heap_items c.loop-before.queue in
    elim c.if-is_raisable.branch [
      | then-is_raisable+in_ok-push w ↦ rw w.queue-is (listed_more D E k queue (heap_items w.push.new.self) _ (omega arith, omega (arith, c.loop-before-test.true, c.vertices-before-end.ensures.count)) refl w.in_ok-push.ensures.permutation c.loop-before.invariant)
      | else-is_raisable w ↦ rw w.queue-is (listed_past D E k queue (iff_false c.is_raisable.ensures w.if-is_raisable.false) c.loop-before.invariant)
    ]

pub returns : goal.returns
returns c = all_listed c.args.arcs.now c.args.twins.now c.loop-before.before (heap_items c.loop-before.queue) c.vertices.ensures.digraph c.requires (omega (arith, c.loop-before-test.false, c.vertices-before-end.ensures.count)) c.loop-before.invariant

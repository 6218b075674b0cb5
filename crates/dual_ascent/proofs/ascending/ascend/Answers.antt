use Rattle.std.proofs.Common.{[], ◌∷◌, refl, subst}
use Rattle.std.specs.BinaryHeap.{heap_items}
use Rattle.dual_ascent.specs.Turns.{AreWaiting, Entry}
use Rattle.dual_ascent.proofs.Fresh.{raise_borne, raise_paid}
use Rattle.dual_ascent.proofs.Queued.{growth_still, leading_again, leading_from, none_waiting, passed_over, waiting_again, waiting_from}
use Rattle.dual_ascent.proofs.Raised.{raises_fit}
use Rattle.dual_ascent.proofs.ChargedCuts.{ends_after}
use Rattle.dual_ascent.proofs.SoFar.{none_so_far, one_more, ends_full}
use Rattle.dual_ascent.proofs.ascending.ascend.Goals as goal

pub returns-in_default-clause-ascent : goal.returns-in_default-clause-ascent
returns-in_default-clause-ascent c =
    let D = c.args.arcs.now in
    let D' = c.loop-room.arcs in
    let cuts = c.loop-room.cuts.items in
    let waiting = subst (AreWaiting D' c.loop-room.twins) (rw c.in_default.is at c.in_ok-turn.ensures.turn) c.loop-room.invariant.waiting in
    ends_full D D' c.args.twins.now c.loop-room.twins c.args.target c.loop-room.room cuts c.loop-room.invariant.so_far c.packing.result (rw c.root.ensures.root at c.packing.ensures) c.ranges.target.fits c.loop-room-test.true (none_waiting D' c.loop-room.twins waiting)

pub next_fresh-requires-clause-waiting : goal.next_fresh-requires-clause-waiting
next_fresh-requires-clause-waiting c = c.loop-room.invariant.waiting.each

pub raise_for-requires-clause-vertex : goal.raise_for-requires-clause-vertex
raise_for-requires-clause-vertex c = (rw c.in-Some.is at c.in_ok-turn.ensures.turn).0.waiting

pub raise_for-requires-clause-in_range : goal.raise_for-requires-clause-in_range
raise_for-requires-clause-in_range c = c.in_ok-turn.ensures.growth.in_range

pub raise_for-requires-clause-seen : goal.raise_for-requires-clause-seen
raise_for-requires-clause-seen c = λ uncovered. rw uncovered at (rw c.in-Some.is at c.in_ok-turn.ensures.turn).0.looked

pub loop-room-init : goal.loop-room-init
loop-room-init c =
    let D = c.args.arcs.now in
    let queue = heap_items c.in_ok-queue.queue in
    record {
      so_far = rw c.new-cuts.ensures.items (none_so_far D c.args.twins.now c.args.target);
      waiting = waiting_from D c.args.twins.now queue c.in_ok-queue.ensures;
      growth = c.in_ok-growth.ensures.growth;
      leading = leading_from D c.args.twins.now _ queue c.in_ok-queue.ensures c.in_ok-growth.ensures.leads;
    }

pub loop-room-preserved-in_default-2 : goal.loop-room-preserved-in_default-2
loop-room-preserved-in_default-2 c =
    let D' = c.loop-room.arcs in
    let E' = c.loop-room.twins in
    let turn = (rw c.in-Some.is at c.in_ok-turn.ensures.turn).0 in
    let passed = passed_over D' E' c.next_fresh.new.growth (heap_items c.loop-room.queue) (heap_items c.next_fresh.new.queue) c.in-Some.turn (rw c.in_default-2.is at c.in_ok-raise.ensures) turn c.loop-room.invariant.waiting in
    record {
      so_far = c.loop-room.invariant.so_far;
      waiting = passed.0;
      growth = c.in_ok-turn.ensures.growth;
      leading = passed.1;
    }

pub charge_cut-requires-clause-set : goal.charge_cut-requires-clause-set
charge_cut-requires-clause-set c = (rw c.in-Some-2.is at c.in_ok-raise.ensures).0.set

pub charge_cut-requires-clause-root : goal.charge_cut-requires-clause-root
charge_cut-requires-clause-root c = (rw c.in-Some-2.is at c.in_ok-raise.ensures).0.apart

pub charge_cut-requires-clause-enough : goal.charge_cut-requires-clause-enough
charge_cut-requires-clause-enough c = raise_borne c.loop-room.arcs c.loop-room.twins c.loop-room.room c.in-Some-2.raise.cut (rw c.in-Some-2.is at c.in_ok-raise.ensures).0

pub charge_cut-requires-clause-prize : goal.charge_cut-requires-clause-prize
charge_cut-requires-clause-prize c =
    let ends = ends_after c.args.arcs.now c.loop-room.arcs c.args.twins.now c.loop-room.twins c.loop-room.cuts.items c.loop-room.invariant.so_far.arcs c.loop-room.invariant.so_far.ends c.requires in
    raise_paid c.loop-room.arcs c.loop-room.twins c.loop-room.room c.in-Some-2.raise.cut ends (rw c.in-Some-2.is at c.in_ok-raise.ensures).0

pub loop-room-preserved : goal.loop-room-preserved
loop-room-preserved c =
    let D' = c.loop-room.arcs in
    let E' = c.loop-room.twins in
    let cuts = c.loop-room.cuts.items in
    let cut = c.in-Some-2.raise.cut in
    let raise = rw c.in-Some-2.is at c.in_ok-raise.ensures in
    let turn = (rw c.in-Some.is at c.in_ok-turn.ensures.turn).0 in
    let rest = heap_items c.next_fresh.new.queue in
    let queue = heap_items c.push.new.self in
    let e : Entry = record { 0 = c.in-Some.turn.waiting } in
    let lowered = c.charge_cut.ensures.arcs in
    let spent = c.charge_cut.ensures.ends in
    let pushed = c.in_ok-push.ensures.permutation in
    record {
      so_far = rw c.in_ok-push-2.ensures.items (one_more c.args.arcs.now D' c.args.twins.now E' c.args.target c.loop-room.room cuts c.loop-room.invariant.so_far c.charge_cut.new.arcs c.charge_cut.new.twins cut raise.0 lowered spent);
      waiting = waiting_again D' c.charge_cut.new.arcs E' c.charge_cut.new.twins rest queue e _ cut lowered spent pushed refl (turn.waited E' c.loop-room.invariant.waiting);
      growth = growth_still D' c.charge_cut.new.arcs (cut ∷ []) c.next_fresh.new.growth lowered c.in_ok-turn.ensures.growth;
      leading = leading_again D' c.charge_cut.new.arcs E' c.charge_cut.new.twins rest queue e _ cut lowered spent pushed refl _ (rw raise.2 at turn.leading);
    }

pub returns-in_default-clause-fits : goal.returns-in_default-clause-fits
returns-in_default-clause-fits c = raises_fit c.args.arcs.now c.args.twins.now c.args.target c.loop-room.cuts.items c.packing.result c.requires (rw c.loop-room.invariant.so_far.arcs.root at (rw c.root.ensures.root at c.packing.ensures)) c.loop-room.invariant.so_far.raises

pub returns-clause-fits : goal.returns-clause-fits
returns-clause-fits c = raises_fit c.args.arcs.now c.args.twins.now c.args.target c.loop-room.cuts.items c.packing-2.result c.requires (rw c.loop-room.invariant.so_far.arcs.root at (rw c.root-2.ensures.root at c.packing-2.ensures)) c.loop-room.invariant.so_far.raises

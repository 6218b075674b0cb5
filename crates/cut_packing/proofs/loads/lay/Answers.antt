use Rattle.std.proofs.Common.{◌<◌, length, get_or, ◌∙◌, arith}
use Rattle.std.proofs.lemmas.List.{length-set}
use Rattle.cut_packing.proofs.Loaded.{next_arcs, laid_next}
use Rattle.cut_packing.proofs.loads.lay.Goals as goal

pub lay_into-requires-clause-room : goal.lay_into-requires-clause-room
lay_into-requires-clause-room c =
    let e = c.members-head-items.ensures.all in
    let below : c.loop-head.head-index < length c.args.set.now.members = rw e at c.loop-head-test.true in
    rw (e, next_arcs c.args.set.now.members c.members-head-items.ensures.apart c.args.value c.args.arcs.now c.loop-head.arcs c.loop-head.head-index below c.loop-head.invariant.laid) (c.requires.room _)

pub loop-head-preserved : goal.loop-head-preserved
loop-head-preserved c =
    let e = c.members-head-items.ensures.all in
    let below : c.loop-head.head-index < length c.args.set.now.members = rw e at c.loop-head-test.true in
    let head = get_or c.args.set.now.members c.loop-head.head-index 0 in
    let room : head < length c.loop-head.arcs = omega (arith, c.members-head-items.ensures.in_range c.loop-head.head-index 0 below, c.requires.count, c.loop-head.invariant.count) in
    record {
      count = rw c.lay_into.ensures (length-set c.loop-head.arcs _ _ ∙ c.loop-head.invariant.count);
      laid = λ v. rw (c.lay_into.ensures, e) (laid_next c.args.set.now.members c.members-head-items.ensures.apart c.args.value c.args.arcs.now c.loop-head.arcs c.loop-head.head-index below c.loop-head.invariant.laid v room);
    }

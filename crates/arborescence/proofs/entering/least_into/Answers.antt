use Rattle.std.proofs.Common.{sym}
use Rattle.cut_packing.specs.declared.arcs.LoadedArc.{LoadedArc}
use Rattle.arborescence.proofs.LeastEntering.{least_in_past, least_in_with}
use Rattle.arborescence.proofs.entering.least_into.Goals as goal
use Rattle.arborescence.proofs.entering.least_into.Goals.{then-not-contains, else-not-contains}

pub loop-arc-preserved : goal.loop-arc-preserved
loop-arc-preserved c =
    let nothing : LoadedArc = record { tail = 0; cost = 0; load = 0 } in
    let set = c.args.set.now.members in
    let head = c.args.head in
    elim c.if-not-contains.branch [
      | then-not-contains w ↦ rw w.least-is (least_in_with set head c.args.given c.loop-arc.least c.args.arcs.now c.loop-arc.arc-index nothing c.loop-arc-test.true c.loop-arc.invariant w.left.result w.lesser.result (sym w.if-not-contains.ensures) w.left.ensures w.lesser.ensures)
      | else-not-contains w ↦ rw w.least-is (least_in_past set head c.args.given c.loop-arc.least c.args.arcs.now c.loop-arc.arc-index nothing c.loop-arc-test.true c.loop-arc.invariant (sym w.if-not-contains.ensures))
    ]

use Rattle.std.proofs.Common.{◌<◌, length, sym, ◌∙◌}
use Rattle.cut_packing.proofs.Loaded.{link_skipped, link_added}
use Rattle.cut_packing.proofs.loads.free_arcs.Goals as goal
use Rattle.cut_packing.proofs.loads.free_arcs.Goals.{then-is_open+in_ok-add+in_ok-add-2, else-is_open}

pub loop-link-preserved : goal.loop-link-preserved
loop-link-preserved c =
    let I = c.args.instance.now in
    let e = c.links-link-items.ensures.all in
    let below : c.loop-link.link-index < length I.links = rw e at c.loop-link-test.true in
    elim c.if-is_open.branch [
      | then-is_open+in_ok-add+in_ok-add-2 w ↦ rw (w.arcs-is, w.in_ok-add-2.ensures.ok, w.in_ok-add.ensures.ok, w.free-then-is_open.ensures, w.free.ensures, e) (link_added I c.args.branch.now c.vertices.ensures.instance c.loop-link.link-index (record { a = 0; b = 0; cost = 0 }) below c.loop-link.arcs (rw e at (sym c.is_open.ensures ∙ w.if-is_open.true)) c.loop-link.invariant)
      | else-is_open w ↦ rw w.arcs-is (link_skipped I c.args.branch.now c.vertices.ensures.instance c.loop-link.link-index (record { a = 0; b = 0; cost = 0 }) below c.loop-link.arcs (rw e at (sym c.is_open.ensures ∙ w.if-is_open.false)) c.loop-link.invariant)
    ]

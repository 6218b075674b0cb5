use Rattle.std.proofs.Common.{sym, ◌∙◌}
use Rattle.bidirected_form.proofs.Entered.{seen_free, seen_marked}
use Rattle.bidirected_form.proofs.entering.push_arcs.Goals as goal
use Rattle.bidirected_form.proofs.entering.push_arcs.Goals.{then-not-is_marked+in_ok-push, else-not-is_marked}

pub loop-arc-preserved : goal.loop-arc-preserved
loop-arc-preserved c =
    elim c.if-not-is_marked.branch [
      | then-not-is_marked+in_ok-push w ↦ rw (w.found-is, w.in_ok-push.ensures.items) (seen_free c.args.marks.now c.args.head c.args.arcs.now c.loop-arc.arc-index (record { tail = 0; remaining = 0 }) _ _ c.loop-arc-test.true (sym c.is_marked.ensures ∙ w.if-not-is_marked.true) c.loop-arc.invariant)
      | else-not-is_marked w ↦ rw w.found-is (seen_marked c.args.marks.now c.args.head c.args.arcs.now c.loop-arc.arc-index (record { tail = 0; remaining = 0 }) _ _ c.loop-arc-test.true (sym c.is_marked.ensures ∙ w.if-not-is_marked.false) c.loop-arc.invariant)
    ]

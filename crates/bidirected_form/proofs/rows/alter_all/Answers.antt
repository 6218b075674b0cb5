use Rattle.std.proofs.Common.{◌∙◌, sym}
use Rattle.bidirected_form.proofs.RowLemmas.{altered_free, altered_marked, altered_more}
use Rattle.bidirected_form.proofs.rows.alter_all.Goals as goal
use Rattle.bidirected_form.proofs.rows.alter_all.Goals.{then-not-is_marked, else-not-is_marked}

pub loop-arc-preserved : goal.loop-arc-preserved
loop-arc-preserved c =
    elim c.if-not-is_marked.branch [
      | then-not-is_marked w ↦ w.arcs-is ∙ altered_more c.args.marks.now c.args.change c.args.arcs.now c.loop-arc.arcs c.loop-arc.arc-index (record { tail = 0; remaining = 0 }) _ c.loop-arc-test.true c.loop-arc.auto.arcs c.loop-arc.invariant (altered_free _ _ _ _ (sym c.is_marked.ensures ∙ w.if-not-is_marked.true) w.applied-arc.ensures)
      | else-not-is_marked w ↦ w.arcs-is ∙ altered_more c.args.marks.now c.args.change c.args.arcs.now c.loop-arc.arcs c.loop-arc.arc-index (record { tail = 0; remaining = 0 }) _ c.loop-arc-test.true c.loop-arc.auto.arcs c.loop-arc.invariant (altered_marked _ _ _ (sym c.is_marked.ensures ∙ w.if-not-is_marked.false))
    ]

use Rattle.std.proofs.Common.{◌∙◌, ap, sym, get_or}
use Rattle.arborescence.specs.Steps.{put_arc}
use Rattle.st_model.specs.declared.link.Link.{Link}
use Rattle.arborescence.proofs.Merging.{merged_more, merged_more_loop}
use Rattle.arborescence.proofs.build.merge_arcs.Goals as goal
use Rattle.arborescence.proofs.build.merge_arcs.Goals.{then-arc+in_ok-put, else-arc}

nothing : Link
nothing = record { a = 0; b = 0; cost = 0 }

pub loop-arc-preserved : goal.loop-arc-preserved
unfolding nothing
loop-arc-preserved c =
    let more = merged_more c.args.stated.now c.loop-arc.arc-index nothing c.loop-arc-test.true in
    let same = merged_more_loop c.args.stated.now c.loop-arc.arc-index nothing c.loop-arc-test.true in
    elim c.if-arc.branch [
      | then-arc+in_ok-put w ↦ rw (w.arcs-is, w.pairs-is) (record {
        arcs = w.in_ok-put.ensures.arcs ∙ ap (λ ls. put_arc ls (get_or c.args.stated.now c.loop-arc.arc-index nothing)) c.loop-arc.invariant.arcs ∙ sym (more w.if-arc.true);
        pairs = w.in_ok-put.ensures.pairs;
      })
      | else-arc w ↦ rw (w.arcs-is, w.pairs-is) (record {
        arcs = c.loop-arc.invariant.arcs ∙ sym (same w.if-arc.false);
        pairs = c.loop-arc.invariant.pairs;
      })
    ]

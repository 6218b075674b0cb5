use Rattle.std.proofs.Common.{◌∙◌, ap, sym, get_or}
use Rattle.st_model.specs.Steps.{put_link}
use Rattle.st_model.specs.declared.link.Link.{Link}
use Rattle.st_model.proofs.Merging.{merged_more, merged_more_loop}
use Rattle.st_model.proofs.build.merge_links.Goals as goal
use Rattle.st_model.proofs.build.merge_links.Goals.{then-link+in_ok-put, else-link}

nothing : Link
nothing = record { a = 0; b = 0; cost = 0 }

pub loop-link-preserved : goal.loop-link-preserved
unfolding nothing
loop-link-preserved c =
    let more = merged_more c.args.stated.now c.loop-link.link-index nothing c.loop-link-test.true in
    let same = merged_more_loop c.args.stated.now c.loop-link.link-index nothing c.loop-link-test.true in
    elim c.if-link.branch [
      | then-link+in_ok-put w ↦ rw (w.links-is, w.pairs-is) (record {
        links = w.in_ok-put.ensures.links ∙ ap (λ ls. put_link ls (get_or c.args.stated.now c.loop-link.link-index nothing)) c.loop-link.invariant.links ∙ sym (more w.if-link.true);
        pairs = w.in_ok-put.ensures.pairs;
      })
      | else-link w ↦ rw (w.links-is, w.pairs-is) (record {
        links = c.loop-link.invariant.links ∙ sym (same w.if-link.false);
        pairs = c.loop-link.invariant.pairs;
      })
    ]

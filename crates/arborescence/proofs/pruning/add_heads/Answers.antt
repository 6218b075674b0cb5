use Rattle.std.proofs.Common.{◌<◌, length, get_or, ◌∙◌, arith}
use Rattle.std.proofs.lemmas.List.{length-set, take_all}
use Rattle.arborescence.proofs.Listing.{listed_more, range_more}
use Rattle.arborescence.proofs.pruning.add_heads.Goals as goal

pub loop-tail-preserved : goal.loop-tail-preserved
loop-tail-preserved c =
    let n = c.args._vertices in
    let arcs = c.args.arcs.now in
    let i = c.loop-tail.tail-index in
    let arc = get_or arcs i (0, 0) in
    let ends = c.requires.within i (0, 0) c.loop-tail-test.true in
    let room : arc.0 < length c.loop-tail.heads = omega (arith, ends.0, c.loop-tail.invariant.count) in
    rw c.in_ok-add.ensures.ok (record {
      count = length-set c.loop-tail.heads arc.0 _ ∙ c.loop-tail.invariant.count;
      in_range = range_more n c.loop-tail.heads arc.0 arc.1 room ends.1 c.loop-tail.invariant.in_range;
      listed = λ u v. listed_more c.args.heads.now c.loop-tail.heads arcs i u v c.loop-tail-test.true room (c.loop-tail.invariant.listed u v);
    })

pub returns-clause-listed : goal.returns-clause-listed
returns-clause-listed c = λ u v. rw (take_all c.loop-tail.tail-index c.args.arcs.now c.loop-tail-test.false) at (c.loop-tail.invariant.listed u v)

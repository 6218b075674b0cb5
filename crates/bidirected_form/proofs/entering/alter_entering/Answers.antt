use Rattle.std.proofs.Common.{◌∙◌, ◌<◌, length, get_or, arith}
use Rattle.std.proofs.lemmas.List.{length-set}
use Rattle.st_model.proofs.Marked.{has_at}
use Rattle.bidirected_form.proofs.Altered.{next_row, altered_next}
use Rattle.bidirected_form.proofs.entering.alter_entering.Goals as goal

pub alter-requires-clause-allowed : goal.alter-requires-clause-allowed
alter-requires-clause-allowed c =
    rw (next_row c.args.marks.now c.args.change c.args.set.now c.args.rows.now c.loop-vertex.rows c.loop-vertex.vertex-index c.requires.set.1.ascending c.loop-vertex-test.true c.loop-vertex.invariant.altered) (c.requires.allowed _ (has_at c.args.set.now c.loop-vertex.vertex-index 0 c.loop-vertex-test.true))

pub loop-vertex-preserved : goal.loop-vertex-preserved
loop-vertex-preserved c =
    let range = c.requires.set.1.in_range c.loop-vertex.vertex-index 0 c.loop-vertex-test.true in
    let room : get_or c.args.set.now c.loop-vertex.vertex-index 0 < length c.loop-vertex.rows = omega (arith, range.1, c.requires.set.2, c.loop-vertex.invariant.count) in
    record {
      count = rw c.alter.ensures (length-set c.loop-vertex.rows _ _ ∙ c.loop-vertex.invariant.count);
      altered = rw c.alter.ensures (altered_next c.args.marks.now c.args.change c.args.set.now c.args.rows.now c.loop-vertex.rows c.loop-vertex.vertex-index c.requires.set.1.ascending c.loop-vertex-test.true room c.loop-vertex.invariant.altered);
    }

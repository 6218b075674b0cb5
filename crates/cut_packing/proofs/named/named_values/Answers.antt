use Rattle.std.proofs.Common.{◌<◌, length, arith}
use Rattle.std.proofs.lemmas.List.{get_or_read}
use Rattle.cut_packing.proofs.Judged.{AreNamed-add, AreNamed-past}
use Rattle.cut_packing.proofs.named.named_values.Goals as goal
use Rattle.cut_packing.proofs.named.named_values.Goals.{then-place-count, else-place-count}

pub loop-cut-preserved : goal.loop-cut-preserved
loop-cut-preserved c =
    let values = c.loop-cut.values.items in
    elim c.if-place-count.branch [
      | then-place-count w ↦
          let room : c.cut-item.result.q < length values = omega (arith, c.loop-cut.invariant.len) in
          let before = get_or_read values _ _ room w.index_mut.ensures.value 0 in
          rw w.values-is (AreNamed-add c.args.count c.args.cuts.now c.loop-cut.cut-index values c.cut-item.result c.loop-cut-test.true c.cut-item.is c.loop-cut.invariant _ (omega (arith, w.from.ensures)) w.if-place-count.true (omega (arith, before, w.from.ensures)))
      | else-place-count w ↦ rw w.values-is (AreNamed-past c.args.count c.args.cuts.now c.loop-cut.cut-index values c.cut-item.result c.loop-cut-test.true c.cut-item.is c.loop-cut.invariant w.if-place-count.false)
    ]

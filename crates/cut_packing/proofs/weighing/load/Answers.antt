use Rattle.std.proofs.Common.{◌≡◌, ℕ, not, ◌&&◌, cond, sym, ap, ◌∙◌, arith}
use Rattle.st_model.specs.Lists.{has}
use Rattle.st_model.proofs.Costs.{total_more}
use Rattle.cut_packing.proofs.weighing.load.Goals as goal
use Rattle.cut_packing.proofs.weighing.load.Goals.{then-is_entered, else-is_entered}

pub loop-cut-preserved : goal.loop-cut-preserved
loop-cut-preserved c =
    let arc : ℕ × ℕ = (c.args.tail, c.args.head) in
    let more = total_more (λ d. cond (has d.set arc.1 && not (has d.set arc.0)) d.y 0) c.args.cuts.now c.loop-cut.cut-index c.cut-item.result c.loop-cut-test.true in
    let entered : c.is_entered.result ≡ (has c.cut-item.result.set arc.1 && not (has c.cut-item.result.set arc.0)) = c.is_entered.ensures ∙ ap (λ set. has set arc.1 && not (has set arc.0)) c.as_slice.ensures in
    let is = c.cut-item.is in
    let same = ap (λ d. cond (has d.set arc.1 && not (has d.set arc.0)) d.y 0) is in
    elim c.if-is_entered.branch [
      | then-is_entered w ↦ let here = ap (λ b. cond b c.cut-item.result.y 0) (sym entered ∙ w.if-is_entered.true) in record { sum = omega (arith, more, same, here, w.sum-is, c.loop-cut.invariant.sum); bound = omega (arith, w.sum-is, c.loop-cut.invariant.bound) }
      | else-is_entered w ↦ let here = ap (λ b. cond b c.cut-item.result.y 0) (sym entered ∙ w.if-is_entered.false) in record { sum = omega (arith, more, same, here, w.sum-is, c.loop-cut.invariant.sum); bound = omega (arith, w.sum-is, c.loop-cut.invariant.bound) }
    ]

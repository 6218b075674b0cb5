use Rattle.std.proofs.Common.{◌≤◌, Bool, true, false, cond, ap, arith}
use Rattle.std.proofs.lemmas.List.{take_all}
use Rattle.st_model.proofs.Costs.{total_more}
use Rattle.st_model.specs.Lists.{has, total}
use Rattle.st_model.specs.Network.{pays}
use Rattle.st_model.proofs.Sums.{sum_to_le}
use Rattle.cut_packing.proofs.Sums.{total-IsVertexSet}
use Rattle.cut_packing.proofs.weighing.prizes.Goals as goal

pub loop-vertex-preserved : goal.loop-vertex-preserved
loop-vertex-preserved c =
    let more = total_more (pays c.args.instance.now) c.args.vertices.now c.loop-vertex.vertex-index 0 c.loop-vertex-test.true in
    let paid = rw c.needs-needs.ensures.all at c.prize.ensures in
    record { sum = omega (arith, more, paid, c.loop-vertex.invariant.sum); bound = omega (arith, c.loop-vertex.invariant.bound) }

pub returns-clause-bound : goal.returns-clause-bound
returns-clause-bound c =
    let I = c.args.instance.now in
    let all = total-IsVertexSet (pays I) I.n c.args.vertices.now c.requires in
    let most = sum_to_le (λ v. cond (has c.args.vertices.now v) (pays I v) 0) (pays I) I.n (λ v low high. at_most (has c.args.vertices.now v) (pays I v)) in
    let whole = ap (total (pays I)) (take_all c.loop-vertex.vertex-index c.args.vertices.now c.loop-vertex-test.false) in
    omega (arith, all, most, whole, c.needs-needs.ensures.instance.amount, c.loop-vertex.invariant.sum)
  where
    at_most : (b : Bool) (x : _) → cond b x 0 ≤ x
    at_most true x = omega arith
    at_most false x = omega arith

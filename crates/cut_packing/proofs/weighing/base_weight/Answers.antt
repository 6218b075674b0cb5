use Rattle.std.proofs.Common.{ap, arith}
use Rattle.st_model.specs.Lists.{total}
use Rattle.st_model.specs.Network.{pays}
use Rattle.cut_packing.proofs.Sums.{total-IsVertexSet}
use Rattle.cut_packing.proofs.weighing.base_weight.Goals as goal

pub returns : goal.returns
returns c =
    let outside = total-IsVertexSet (pays c.args.instance.now) c.args.instance.now.n _ c.requires.outside in
    let prizes = ap (total (pays c.args.instance.now)) c.as_slice.ensures in
    let values = ap (total (λ c. c.y)) c.as_slice-2.ensures in
    omega (arith, outside, prizes, values, c.base.ensures.sum)

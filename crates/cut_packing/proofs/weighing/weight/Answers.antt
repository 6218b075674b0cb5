use Rattle.std.proofs.Common.{ap, arith}
use Rattle.st_model.specs.Lists.{total}
use Rattle.st_model.specs.Network.{pays}
use Rattle.cut_packing.specs.Packing.{spare}
use Rattle.cut_packing.proofs.Sums.{total-IsVertexSet}
use Rattle.cut_packing.proofs.weighing.weight.Goals as goal

pub returns : goal.returns
returns c =
    let I = c.args.instance.now in
    let outside = total-IsVertexSet (pays I) I.n _ c.requires.outside in
    let prizes = ap (total (pays I)) c.as_slice.ensures in
    let cuts = c.as_slice-cuts.ensures in
    let values = ap (total (λ c. c.y)) cuts in
    let spares = ap (total (spare I c.as_slice-cuts.result.now)) c.as_slice-2.ensures in
    let same = ap (λ list. total (spare I list) c.args.branch.now.must) cuts in
    omega (arith, outside, prizes, values, spares, same, c.base.ensures.sum, c.spares.ensures.sum)

use Rattle.std.proofs.Common.{arith}
use Rattle.std.proofs.lemmas.Result.{IfOk-weaker}
use Rattle.cut_packing.proofs.SaturatedArcs.{AreSaturated-from, IfOk-both}
use Rattle.arborescence.specs.DiNetwork.{away_price, di_ground}
use Rattle.directed_search.proofs.guessing.saturated.Goals as goal

pub returns : goal.returns
returns c =
    let laid = c.in_ok-arcs.ensures (di_ground c.args.instance.now) c.args.branch.now (away_price c.args.instance.now) c.in_ok-free.ensures in
    let loaded = rw c.as_slice.ensures at laid in
    IfOk-weaker c.heads_of.result _ _ (λ heads p. AreSaturated-from (di_ground c.args.instance.now) c.args.branch.now c.args.packing.now c.in_ok-arcs.arcs heads loaded (omega (arith, p.0, c.vertices.ensures.count)) p.1) (IfOk-both c.heads_of.result _ _ c.heads_of.ensures.count c.heads_of.ensures.listed)

use Rattle.std.proofs.Common.{arith}
use Rattle.std.proofs.lemmas.Result.{IfOk-weaker}
use Rattle.cut_packing.proofs.SaturatedArcs.{AreSaturated-from, IfOk-both}
use Rattle.arborescence.specs.DiNetwork.{di_ground}
use Rattle.arborescence.proofs.fullness.saturated.Goals as goal

pub returns : goal.returns
returns c =
    let loaded = rw c.as_slice.ensures at c.in_ok-arcs.ensures in
    IfOk-weaker c.heads_of.result _ _ (λ heads p. AreSaturated-from (di_ground c.args.instance.now) c.args.branch.now c.args.packing.now c.in_ok-arcs.arcs heads loaded (omega (arith, p.0, c.vertices.ensures.count)) p.1) (IfOk-both c.heads_of.result _ _ c.heads_of.ensures.count c.heads_of.ensures.listed)

use Rattle.std.proofs.Common.{arith}
use Rattle.std.proofs.lemmas.Result.{IfOk-weaker}
use Rattle.cut_packing.proofs.SaturatedArcs.{IfOk-both}
use Rattle.arborescence.specs.DiNetwork.{di_ground}
use Rattle.arborescence.proofs.OpenArcs.{AreOpen-from}
use Rattle.arborescence.proofs.loads.open_heads.Goals as goal

pub returns : goal.returns
returns c =
    IfOk-weaker c.all_heads.result _ _ (λ heads p. AreOpen-from (di_ground c.args.instance.now) c.args.branch.now c.in_ok-arcs.arcs heads c.in_ok-arcs.ensures (omega (arith, p.0, c.vertices.ensures.count)) p.1) (IfOk-both c.all_heads.result _ _ c.all_heads.ensures.count c.all_heads.ensures.listed)

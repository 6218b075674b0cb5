use Rattle.std.proofs.lemmas.Result.{IfOk-weaker}
use Rattle.cut_packing.proofs.SaturatedArcs.{reached_iff}
use Rattle.arborescence.specs.DiNetwork.{di_ground}
use Rattle.arborescence.proofs.fullness.reached.Goals as goal

pub returns : goal.returns
returns c =
    IfOk-weaker c.walk.result _ _ (λ s led. reached_iff (di_ground c.args.instance.now) c.args.branch.now c.args.packing.now c.in_ok-heads.heads s.members c.args.instance.now.root c.in_ok-heads.ensures led) (rw c.root.ensures.root at c.walk.ensures)

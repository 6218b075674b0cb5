use Rattle.std.proofs.Common.{arith}
use Rattle.std.proofs.lemmas.Result.{IfOk-weaker}
use Rattle.st_model.specs.Ground.{ground}
use Rattle.cut_packing.proofs.SaturatedArcs.{reached_iff, unreached_iff}
use Rattle.cut_packing.proofs.fullness.reached.Goals as goal

pub returns-then-root-count : goal.returns-then-root-count
returns-then-root-count c =
    IfOk-weaker c.new.result _ _ (λ s none. unreached_iff c.args.instance.now c.args.branch.now c.args.packing.now s.members c.args.root c.vertices.ensures.instance (omega (arith, c.vertices.ensures.count, c.if-root-count.true)) none) c.new.ensures.empty

pub returns : goal.returns
returns c =
    IfOk-weaker c.walk.result _ _ (λ s led. reached_iff (ground c.args.instance.now) c.args.branch.now c.args.packing.now c.in_ok-heads.heads s.members c.args.root c.in_ok-heads.ensures led) c.walk.ensures

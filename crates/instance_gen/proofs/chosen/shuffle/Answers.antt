use Rattle.std.proofs.Common.{◌∙◌, refl, ap, length}
use Rattle.st_model.proofs.Sums.{length-up_to}
use Rattle.instance_gen.proofs.chosen.shuffle.Goals as goal

pub loop-index-init : goal.loop-index-init
loop-index-init c = (refl, ap length c.in_ok-list.ensures ∙ length-up_to c.args.n)

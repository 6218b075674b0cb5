use Rattle.std.proofs.Common.{ap, ◌∙◌}
use Rattle.st_model.specs.Lists.{total}
use Rattle.arborescence.proofs.DiWeights.{weighs_cuts}
use Rattle.arborescence.proofs.weighing.di_weight.Goals as goal

pub returns : goal.returns
returns c = c.values.ensures.sum ∙ ap (total (λ c. c.y)) c.as_slice.ensures ∙ weighs_cuts c.args._instance.now c.args._branch.now c.args.packing.now c.requires

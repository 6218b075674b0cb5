use Rattle.std.proofs.lemmas.Result.{IfOk-weaker}
use Rattle.node_work.proofs.expanding.expand.Goals as goal

pub returns-in_default : goal.returns-in_default
returns-in_default g c = IfOk-weaker c.close.result _ _ (λ step h. h c.args.manner.links) c.close.ensures

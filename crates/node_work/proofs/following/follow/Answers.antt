use Rattle.std.proofs.lemmas.Result.{IfOk-weaker}
use Rattle.node_work.proofs.following.follow.Goals as goal

pub returns-in-Some : goal.returns-in-Some
returns-in-Some g c = IfOk-weaker c.split_by.result _ _ (λ step h. h c.args.links c.in-Some.ensures.allowed) c.split_by.ensures

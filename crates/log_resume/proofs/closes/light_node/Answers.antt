use Rattle.std.proofs.Common.{sym, subst}
use Rattle.st_model.specs.Network.{Network}
use Rattle.st_model.specs.Branch.{IsBranch}
use Rattle.log_resume.proofs.Walks.{first_branch}
use Rattle.log_resume.proofs.closes.light_node.Goals as goal

pub weight-requires : goal.weight-requires
weight-requires c = subst (λ (I : Network). IsBranch I c.in-Some-Close.branch.now) (sym c.instance.ensures) (first_branch c.args.walk.now c.in-Some-Close.branch.now c.in-Some-Close.ensures.branch c.first.ensures.is_opened)

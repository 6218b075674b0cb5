use Rattle.log_resume.proofs.Weighing.{first_branch}
use Rattle.log_resume.proofs.growing.weighed.Goals as goal

pub weight-requires : goal.weight-requires
weight-requires c = first_branch c.args.walk.now.instance c.instance.result.now c.args.walk.now.path c.in-Some.branch.now c.first.ensures.is_opened c.in-Some.ensures.branch c.instance.ensures

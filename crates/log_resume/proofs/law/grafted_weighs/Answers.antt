use Rattle.log_resume.proofs.Grafting.{weighs_lem}
use Rattle.log_resume.proofs.law.grafted_weighs.Goals as goal

pub returns : goal.returns
returns c = weighs_lem

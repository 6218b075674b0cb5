use Rattle.log_resume.proofs.Grafting.{proves_lem}
use Rattle.log_resume.proofs.law.grafted_proves.Goals as goal

pub returns : goal.returns
returns c = proves_lem

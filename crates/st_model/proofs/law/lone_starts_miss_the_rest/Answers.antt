use Rattle.st_model.proofs.Costs.{lone_start}
use Rattle.st_model.proofs.law.lone_starts_miss_the_rest.Goals as goal

pub returns : goal.returns
returns c = lone_start

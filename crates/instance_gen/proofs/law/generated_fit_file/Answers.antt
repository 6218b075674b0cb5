use Rattle.instance_gen.proofs.Fitting.{generated_fit}
use Rattle.instance_gen.proofs.law.generated_fit_file.Goals as goal

pub returns : goal.returns
returns c = generated_fit

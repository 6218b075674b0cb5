use Rattle.arborescence.specs.Problem.{plain}
use Rattle.log_format.proofs.Rejecting.{rejected_of_a_problem_exactly_lem}
use Rattle.log_format.proofs.law.rejected_exactly.Goals as goal

pub returns : goal.returns
returns c = λ I log. rejected_of_a_problem_exactly_lem (plain I) log

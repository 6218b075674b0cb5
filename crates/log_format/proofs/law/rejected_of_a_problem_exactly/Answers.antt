use Rattle.log_format.proofs.Rejecting.{rejected_of_a_problem_exactly_lem}
use Rattle.log_format.proofs.law.rejected_of_a_problem_exactly.Goals as goal

pub returns : goal.returns
returns c = rejected_of_a_problem_exactly_lem

use Rattle.log_format.proofs.Accepting.{accepted_of_a_problem_holds_lem}
use Rattle.log_format.proofs.law.accepted_of_a_problem_holds.Goals as goal

pub returns : goal.returns
returns c = accepted_of_a_problem_holds_lem

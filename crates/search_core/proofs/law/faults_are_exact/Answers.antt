use Rattle.search_core.proofs.Running.{allowed_lem, one_lem}
use Rattle.search_core.proofs.law.faults_are_exact.Goals as goal

pub returns-clause-allowed : goal.returns-clause-allowed
returns-clause-allowed c = allowed_lem

pub returns-clause-one : goal.returns-clause-one
returns-clause-one c = one_lem

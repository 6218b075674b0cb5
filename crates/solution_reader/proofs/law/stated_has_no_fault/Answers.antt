use Rattle.solution_reader.proofs.TreeFits.{stated_has_no_fault_lem}
use Rattle.solution_reader.proofs.law.stated_has_no_fault.Goals as goal

pub returns : goal.returns
returns c = stated_has_no_fault_lem

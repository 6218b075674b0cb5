use Rattle.log_format.specs.declared.log.Version.TheVariants.{One}
use Rattle.log_format.specs.declared.stage.Stage.TheVariants.{AtHeader}
use Rattle.log_format.proofs.Finishing.{read_none, read_begins}
use Rattle.log_format.proofs.gathering.Gathering.new.Goals as goal

pub invariant_of-result : goal.invariant_of-result
invariant_of-result c = read_none One

pub returns-clause-begins : goal.returns-clause-begins
returns-clause-begins c = read_begins One AtHeader (read_none One)

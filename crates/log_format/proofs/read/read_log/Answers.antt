use Rattle.log_format.proofs.WholeLines.{only_one}
use Rattle.log_format.proofs.read.read_log.Goals as goal

pub returns-clause-only : goal.returns-clause-only
returns-clause-only c = only_one c.args.bytes.now c.read.result c.read.ensures.found c.read.ensures.fault

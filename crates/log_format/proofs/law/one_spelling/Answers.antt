use Rattle.log_format.proofs.WholeLines.{one_log}
use Rattle.log_format.proofs.law.one_spelling.Goals as goal

pub returns : goal.returns
returns c = one_log

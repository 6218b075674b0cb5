use Rattle.stp_reader.proofs.OneAnswer.{reads_alike_lem}
use Rattle.stp_reader.proofs.law.reads_alike.Goals as goal

pub returns : goal.returns
returns c = reads_alike_lem

use Rattle.instance_gen.proofs.Reread.{written_are_read}
use Rattle.instance_gen.proofs.law.written_are_read.Goals as goal

pub returns : goal.returns
returns c = written_are_read

use Rattle.stp_reader.proofs.OneAnswer.{refused_exactly_lem}
use Rattle.stp_reader.proofs.law.refused_exactly.Goals as goal

pub returns : goal.returns
returns c = refused_exactly_lem

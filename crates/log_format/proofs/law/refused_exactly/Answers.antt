use Rattle.log_format.proofs.Refusing.{refused_exactly_lem}
use Rattle.log_format.proofs.law.refused_exactly.Goals as goal

pub returns : goal.returns
returns c = refused_exactly_lem

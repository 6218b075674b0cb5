use Rattle.solution_reader.proofs.OneClaim.{refused_exactly_lem}
use Rattle.solution_reader.proofs.law.solutions_refused_exactly.Goals as goal

pub returns : goal.returns
returns c = refused_exactly_lem

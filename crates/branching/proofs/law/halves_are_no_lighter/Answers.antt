use Rattle.branching.proofs.NoLighter.{halves_are_no_lighter_lem}
use Rattle.branching.proofs.law.halves_are_no_lighter.Goals as goal

pub returns : goal.returns
returns c = halves_are_no_lighter_lem

use Rattle.std.proofs.Common.{rules}
use Rattle.few_terminals.proofs.judging.judge.Goals as goal

pub returns-then-is_some-clause-fault : goal.returns-then-is_some-clause-fault
returns-then-is_some-clause-fault c = search rules

pub returns-then-from-sets-gt-MOST_CELLS-clause-fault : goal.returns-then-from-sets-gt-MOST_CELLS-clause-fault
returns-then-from-sets-gt-MOST_CELLS-clause-fault c = search rules

pub returns-clause-few : goal.returns-clause-few
returns-clause-few c = search rules

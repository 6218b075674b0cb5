use Rattle.few_terminals.proofs.Tables.{tables_bound}
use Rattle.few_terminals.proofs.law.tables_bound.Goals as goal

pub returns : goal.returns
returns c = tables_bound

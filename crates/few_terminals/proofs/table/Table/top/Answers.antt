use Rattle.std.proofs.Common.{rules}
use Rattle.few_terminals.proofs.table.Table.top.Goals as goal

pub returns-else-index-lt-FAR-clause-some : goal.returns-else-index-lt-FAR-clause-some
returns-else-index-lt-FAR-clause-some c = search rules

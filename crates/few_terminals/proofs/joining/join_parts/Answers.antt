use Rattle.std.proofs.Common.{rules}
use Rattle.few_terminals.proofs.joining.join_parts.Goals as goal

pub loop-part-init : goal.loop-part-init
loop-part-init c = search rules

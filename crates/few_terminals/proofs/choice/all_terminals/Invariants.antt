use Rattle.few_terminals.specs.Terminals.{AreTerminalsBelow}
use Rattle.few_terminals.proofs.choice.all_terminals.Given as goal

abbrev pub invariant-loop-vertex : goal.invariant-loop-vertex
invariant-loop-vertex l = AreTerminalsBelow l.instance l.list.items l.vertex

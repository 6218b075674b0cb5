use Rattle.few_terminals.specs.Filling.{Joins}
use Rattle.few_terminals.proofs.joining.join.Given as goal

abbrev pub invariant-loop-slot : goal.invariant-loop-slot
invariant-loop-slot l = Joins l.reached l.slot l.initial.marks.items l.first l.second l.marks.items

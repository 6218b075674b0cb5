use Rattle.std.proofs.Common.{◌≡◌, ◌≤◌}
use Rattle.few_terminals.specs.Terminals.{count_to}
use Rattle.few_terminals.proofs.judging.count_terminals.Given as goal

abbrev pub invariant-loop-vertex : goal.invariant-loop-vertex
invariant-loop-vertex l = (l.count ≡ count_to l.instance l.vertex) × (l.count ≤ l.vertex)

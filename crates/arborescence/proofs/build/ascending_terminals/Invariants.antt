use Rattle.std.proofs.Common.{◌≡◌}
use Rattle.arborescence.specs.Stated.{stated_terminals}
use Rattle.arborescence.proofs.build.ascending_terminals.Given as goal

abbrev pub invariant-loop-before : goal.invariant-loop-before
invariant-loop-before l = l.terminals.items ≡ stated_terminals l.stated.members l.before

use Rattle.std.proofs.Common.{◌≡◌, ◌++◌, map, take}
use Rattle.std.specs.List.{flat_map}
use Rattle.plain_text.specs.Lines.{ended}
use Rattle.log_format.specs.Text.{arc_line}
use Rattle.log_format.proofs.write.write_arcs.Given as goal

abbrev pub invariant-loop-tail : goal.invariant-loop-tail
invariant-loop-tail l = l.text.items ≡ l.initial.text.items ++ flat_map ended (map arc_line (take l.tail-index l.arcs))

use Rattle.std.proofs.Common.{◌≡◌, ◌++◌, map, take}
use Rattle.std.specs.List.{flat_map}
use Rattle.plain_text.specs.Lines.{ended}
use Rattle.log_format.specs.Text.{cut_line}
use Rattle.log_format.proofs.write.write_cuts.Given as goal

abbrev pub invariant-loop-cut : goal.invariant-loop-cut
invariant-loop-cut l = l.text.items ≡ l.initial.text.items ++ flat_map ended (map cut_line (take l.cut-index l.cuts))

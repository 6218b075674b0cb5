use Rattle.std.proofs.Common.{◌≡◌, ◌++◌, take}
use Rattle.std.specs.List.{flat_map}
use Rattle.plain_text.specs.Lines.{ended}
use Rattle.log_format.specs.Text.{lines_of}
use Rattle.log_format.proofs.write.write_lines.Given as goal

abbrev pub invariant-loop-line : goal.invariant-loop-line
invariant-loop-line l = l.text.items ≡ l.initial.text.items ++ flat_map ended (flat_map lines_of (take l.line-index l.lines))

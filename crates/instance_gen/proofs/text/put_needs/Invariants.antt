use Rattle.std.proofs.Common.{map, string_bytes, take}
use Rattle.instance_gen.specs.Text.{need_line}
use Rattle.instance_gen.specs.Writing.{IsWritten}
use Rattle.instance_gen.proofs.text.put_needs.Given as goal

abbrev pub invariant-loop-entry : goal.invariant-loop-entry
invariant-loop-entry l = IsWritten (string_bytes l.initial.text) (string_bytes l.text) (map (λ entry. need_line entry l.scale) (take l.entry-index l.needs))

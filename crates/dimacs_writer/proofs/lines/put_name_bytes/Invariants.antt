use Rattle.std.proofs.Common.{◌≡◌, ◌++◌, map, take}
use Rattle.dimacs_writer.specs.Solution.{name_byte}
use Rattle.dimacs_writer.proofs.lines.put_name_bytes.Given as goal

abbrev pub invariant-loop-byte : goal.invariant-loop-byte
invariant-loop-byte l = l.out.items ≡ l.initial.out.items ++ map name_byte (take l.byte-index l.byte-items)

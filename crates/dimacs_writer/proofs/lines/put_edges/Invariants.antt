use Rattle.std.proofs.Common.{map, string_bytes, take}
use Rattle.dimacs_writer.specs.Solution.{edge_line}
use Rattle.dimacs_writer.specs.Writing.{IsWritten}
use Rattle.dimacs_writer.proofs.lines.put_edges.Given as goal

abbrev pub invariant-loop-edge : goal.invariant-loop-edge
invariant-loop-edge l = IsWritten (string_bytes l.initial.text) (string_bytes l.text) (map edge_line (take l.edge-index l.edges))

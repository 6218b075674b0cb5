use Rattle.std.proofs.Common.{map, string_bytes, take}
use Rattle.dimacs_writer.specs.Solution.{vertex_line}
use Rattle.dimacs_writer.specs.Writing.{IsWritten}
use Rattle.dimacs_writer.proofs.lines.put_vertices.Given as goal

abbrev pub invariant-loop-vertex : goal.invariant-loop-vertex
invariant-loop-vertex l = IsWritten (string_bytes l.initial.text) (string_bytes l.text) (map vertex_line (take l.vertex-index l.vertices))

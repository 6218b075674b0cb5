use Rattle.std.proofs.Common.{◌≡◌, ◌++◌, take}
use Rattle.std.specs.List.{flat_map}
use Rattle.log_format.specs.Text.{spaced}
use Rattle.log_format.proofs.write.write_vertices.Given as goal

abbrev pub invariant-loop-vertex : goal.invariant-loop-vertex
invariant-loop-vertex l = l.text.items ≡ l.initial.text.items ++ flat_map spaced (take l.vertex-index l.vertices)

use Rattle.std.proofs.Common.{◌≡◌, drop}
use Rattle.log_format.specs.Reading.{ascends}
use Rattle.log_format.proofs.line.ascends.Given as goal

abbrev pub invariant-loop-vertex : goal.invariant-loop-vertex
invariant-loop-vertex l = ascends l.last (drop l.vertex-index l.vertices) ≡ ascends 0 l.vertices

use Rattle.std.proofs.Common.{◌≡◌, ◌-◌}
use Rattle.log_format.specs.Reading.{vertices_at}
use Rattle.log_format.proofs.Loop.{with_front}
use Rattle.log_format.proofs.line.vertices_at.Given as goal

abbrev pub invariant-loop : goal.invariant-loop
invariant-loop l = with_front l.vertices.items (vertices_at (l.count - l.counter) l.rest) ≡ vertices_at l.count l.bytes

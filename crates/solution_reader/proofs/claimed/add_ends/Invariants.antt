use Rattle.std.proofs.Common.{◌≡◌, ◌++◌, take}
use Rattle.solution_reader.specs.Claim.{ends_of}
use Rattle.solution_reader.proofs.claimed.add_ends.Given as goal

abbrev pub invariant-loop-a : goal.invariant-loop-a
invariant-loop-a l = l.vertices.items ≡ l.initial.vertices.items ++ ends_of (take l.a-index l.edges)

use Rattle.std.proofs.Common.{◌≡◌, ◌++◌, drop}
use Rattle.search_core.specs.Settled.{segments_from}
use Rattle.search_core.proofs.gathering.segments_of.Given as goal

-- those of the workers so far, and those of the workers to come
abbrev pub invariant-loop-place : goal.invariant-loop-place
invariant-loop-place l = l.segments.items ++ segments_from l.nodes l.place (drop l.place l.workers) ≡ segments_from l.nodes 0 l.workers

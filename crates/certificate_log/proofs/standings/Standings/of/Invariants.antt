use Rattle.std.proofs.Common.{take}
use Rattle.std.specs.List.{flat_map}
use Rattle.certificate_log.specs.Standing.{FindsIn}
use Rattle.certificate_log.proofs.standings.Standings.of.Given as goal

-- what the workers so far did and left is found
abbrev pub invariant-loop-segment : goal.invariant-loop-segment
invariant-loop-segment l = FindsIn (flat_map (λ s. s.done) (take l.segment-index l.gathered.segments)) (flat_map (λ s. s.left) (take l.segment-index l.gathered.segments)) l.standings

use Rattle.std.proofs.Common.{◌≡◌, take}
use Rattle.std.specs.List.{flat_map}
use Rattle.certificate_log.specs.Bound.{lowest_weight}
use Rattle.certificate_log.proofs.bound.bound_of.Given as goal

-- the least of those that the workers so far left
abbrev pub invariant-loop-segment : goal.invariant-loop-segment
invariant-loop-segment l = l.bound ≡ lowest_weight l.instance l.gathered.least (flat_map (λ s. s.left) (take l.segment-index l.segment-items))

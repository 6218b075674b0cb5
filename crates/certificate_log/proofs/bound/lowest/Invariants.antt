use Rattle.std.proofs.Common.{◌≡◌, take}
use Rattle.certificate_log.specs.Bound.{lowest_weight}
use Rattle.certificate_log.proofs.bound.lowest.Given as goal

-- the least of those so far
abbrev pub invariant-loop-node : goal.invariant-loop-node
invariant-loop-node l = l.bound ≡ lowest_weight l.instance l.top (take l.node-index l.nodes)

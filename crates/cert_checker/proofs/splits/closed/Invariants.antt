use Rattle.std.proofs.Common.{◌≡◌, length, reverse}
use Rattle.cert_checker.specs.Held.{closed}
use Rattle.cert_checker.proofs.splits.closed.Given as goal

-- what is left is closed as all are
abbrev pub invariant-loop-second_waits : goal.invariant-loop-second_waits
invariant-loop-second_waits l = closed (reverse l.rest.items) ≡ closed (reverse l.fn.waits.items)

abbrev pub decreases-loop-second_waits : goal.decreases-loop-second_waits
decreases-loop-second_waits l = length l.rest.items

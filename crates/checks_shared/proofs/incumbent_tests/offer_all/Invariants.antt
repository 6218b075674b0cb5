use Rattle.std.proofs.Common.{◌≡◌}
use Rattle.checks_shared.proofs.incumbent_tests.offer_all.Given as goal

abbrev pub invariant-loop-k : goal.invariant-loop-k
invariant-loop-k l = l.seat.incumbent ≡ l.fn.seat.incumbent

use Rattle.std.proofs.Common.{◌≡◌}
use Rattle.checks_shared.proofs.open_ledger_tests.claim_up_to.Given as goal

abbrev pub invariant-loop : goal.invariant-loop
invariant-loop l = (l.seat.ledger ≡ l.fn.seat.ledger) × (l.seat.tally.refused ≡ 0)

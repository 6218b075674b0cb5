use Rattle.std.proofs.Common.{◌≡◌}
use Rattle.checks_shared.proofs.open_ledger_tests.work.Given as goal

abbrev pub invariant-loop : goal.invariant-loop
invariant-loop l = l.seat.ledger ≡ l.fn.seat.ledger

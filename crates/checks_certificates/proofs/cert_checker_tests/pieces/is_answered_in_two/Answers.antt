use Rattle.std.proofs.Common.{arith}
use Rattle.checks_certificates.proofs.cert_checker_tests.pieces.is_answered_in_two.Goals as goal

pub fed_two-requires-clause-few : goal.fed_two-requires-clause-few
fed_two-requires-clause-few g c = omega (arith, c.in_ok-checker.ensures)

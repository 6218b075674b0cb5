use Rattle.std.proofs.Common.{arith}
use Rattle.checks_certificates.proofs.cert_checker_tests.pieces.is_answered_by.Goals as goal

pub fed_by-requires-clause-few : goal.fed_by-requires-clause-few
fed_by-requires-clause-few g c = omega (arith, c.in_ok-checker.ensures)

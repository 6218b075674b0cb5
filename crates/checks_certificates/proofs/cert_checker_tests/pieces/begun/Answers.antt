use Rattle.std.proofs.Common.{length, ap}
use Rattle.checks_certificates.proofs.cert_checker_tests.pieces.begun.Goals as goal

pub returns : goal.returns
returns g c = ap length c.in_ok-checker.ensures.found.3

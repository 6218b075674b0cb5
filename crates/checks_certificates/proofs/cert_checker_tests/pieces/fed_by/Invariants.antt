use Rattle.std.proofs.Common.{length}
use Rattle.cert_checker.proofs.Pieces.{IsSplitAs}
use Rattle.checks_certificates.proofs.cert_checker_tests.pieces.fed_by.Given as goal

-- what was fed and what is left are all
abbrev pub invariant-loop-rest : goal.invariant-loop-rest
invariant-loop-rest l = IsSplitAs l.checker.text l.rest l.fn.checker.text l.text

abbrev pub decreases-loop-rest : goal.decreases-loop-rest
decreases-loop-rest l = length l.rest

use Rattle.std.proofs.Common.{Ok, Err, refl, ap}
use Rattle.cert_checker.specs.Pieces.{Pieces}
use Rattle.cert_checker.proofs.Answering.{fault_only, fault_refused, never_refused, made_of_file}
use Rattle.stp_reader.specs.Answer.{problem_read, scale_read}
use Rattle.cert_checker.proofs.checker.Checker.begin_file.Goals as goal

pub returns-in_err-file-clause-only : goal.returns-in_err-file-clause-only
returns-in_err-file-clause-only c = λ p scale reads. fault_only c.from_residual.result c.in_err-file.field-0.0 _ c.from_residual.ensures.1 (c.in_err-file.ensures.only p scale reads)

pub returns-in_err-file-clause-refused : goal.returns-in_err-file-clause-refused
returns-in_err-file-clause-refused c = λ line reason refused. fault_refused (Err c.in_err-file.field-0.0) c.from_residual.result c.in_err-file.field-0.0 line reason c.from_residual.ensures.1 refl (c.in_err-file.ensures.refused line reason refused)

pub returns-clause-refused : goal.returns-clause-refused
returns-clause-refused c = λ line reason refused. absurd (never_refused (Ok c.in_ok-file.file) c.in_ok-file.file _ _ refl (c.in_ok-file.ensures.refused line reason refused))

pub returns-clause-found : goal.returns-clause-found
returns-clause-found c = let is = c.of_file.ensures in (rw is c.in_ok-file.ensures.found, ap (λ (p : Pieces). p.text) is)

pub returns-clause-only : goal.returns-clause-only
returns-clause-only c = λ p scale reads.
    let is = c.in_ok-file.ensures.only p scale reads in
    made_of_file p (problem_read c.in_ok-file.file) c.of_file.result scale (scale_read c.in_ok-file.file) is.0 is.1 c.of_file.ensures

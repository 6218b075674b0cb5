use Rattle.std.proofs.Common.{Ok, Err, refl, ap}
use Rattle.cert_checker.specs.Pieces.{Pieces}
use Rattle.cert_checker.proofs.Answering.{fault_only, fault_refused, never_refused, made_of}
use Rattle.cert_checker.proofs.checker.Checker.begin.Goals as goal

pub returns-in_err-reading-clause-only : goal.returns-in_err-reading-clause-only
returns-in_err-reading-clause-only c = λ I scale reads. fault_only c.from_residual.result c.in_err-reading.field-0.0 _ c.from_residual.ensures.1 (c.in_err-reading.ensures.only I scale reads)

pub returns-in_err-reading-clause-refused : goal.returns-in_err-reading-clause-refused
returns-in_err-reading-clause-refused c = λ line reason refused. fault_refused (Err c.in_err-reading.field-0.0) c.from_residual.result c.in_err-reading.field-0.0 line reason c.from_residual.ensures.1 refl (c.in_err-reading.ensures.refused line reason refused)

pub returns-clause-refused : goal.returns-clause-refused
returns-clause-refused c = λ line reason refused. absurd (never_refused (Ok c.in_ok-reading.reading) c.in_ok-reading.reading _ _ refl (c.in_ok-reading.ensures.refused line reason refused))

pub returns-clause-found : goal.returns-clause-found
returns-clause-found c = let is = c.on.ensures in (c.in_ok-reading.reading.instance, rw is c.in_ok-reading.ensures.found, ap (λ (p : Pieces). p.problem) is, ap (λ (p : Pieces). p.text) is)

pub returns-clause-only : goal.returns-clause-only
returns-clause-only c = λ I scale reads.
    let is = c.in_ok-reading.ensures.only I scale reads in
    made_of I c.in_ok-reading.reading.instance c.on.result scale c.in_ok-reading.reading.scale is.0 is.1 c.on.ensures

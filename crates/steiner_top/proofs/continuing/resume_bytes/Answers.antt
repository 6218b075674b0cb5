use Rattle.std.proofs.Common.{rules}
use Rattle.cert_checker.specs.declared.fault.CheckFault.TheVariants.{Stp, Log as OfLog}
use Rattle.steiner_top.proofs.Resuming.{good_so, no_fault, same_fault}
use Rattle.steiner_top.proofs.continuing.resume_bytes.Goals as goal

pub returns-in_err-check-clause-refused : goal.returns-in_err-check-clause-refused
returns-in_err-check-clause-refused g c line reason refused =
    same_fault c.check.result c.from_residual.result c.in_err-check.field-0.0 (Stp (record { line = line; reason = reason })) (search rules) (search rules) (c.check.ensures.file line reason refused)

pub returns-in_err-check-clause-wrong : goal.returns-in_err-check-clause-wrong
returns-in_err-check-clause-wrong g c I scale line kind reads wrong =
    same_fault c.check.result c.from_residual.result c.in_err-check.field-0.0 (OfLog (record { line = line; kind = kind })) (search rules) (search rules) (c.check.ensures.log I scale line kind reads wrong)

pub go_on-requires-clause-accepted : goal.go_on-requires-clause-accepted
go_on-requires-clause-accepted g c _ _ =
    let reading = c.in_ok-reading.reading in
    (good_so c.args.stp.now c.args.log.now c.check.result c.in_ok-check.field-0 reading.instance reading.scale c.in_ok-log.log (c.refused_exactly.ensures c.args.stp.now) c.one_spelling.ensures (search rules) c.check.ensures.exact c.in_ok-reading.ensures c.in_ok-log.ensures.0
    c.in_ok-log.ensures.1).accepted

pub returns-clause-exact : goal.returns-clause-exact
returns-clause-exact g c =
    let reading = c.in_ok-reading.reading in
    let log = c.in_ok-log.log in
    let good = good_so c.args.stp.now c.args.log.now c.check.result c.in_ok-check.field-0 reading.instance reading.scale log (c.refused_exactly.ensures c.args.stp.now) c.one_spelling.ensures (search rules) c.check.ensures.exact c.in_ok-reading.ensures c.in_ok-log.ensures.0
    c.in_ok-log.ensures.1 in
    (reading.instance, reading.scale, log, good, c.in_ok-outcome.ensures)

pub returns-clause-refused : goal.returns-clause-refused
returns-clause-refused g c line reason refused = no_fault c.check.result c.in_ok-check.field-0 (Stp (record { line = line; reason = reason })) (search rules) (c.check.ensures.file line reason refused)

pub returns-clause-wrong : goal.returns-clause-wrong
returns-clause-wrong g c I scale line kind reads wrong = no_fault c.check.result c.in_ok-check.field-0 (OfLog (record { line = line; kind = kind })) (search rules) (c.check.ensures.log I scale line kind reads wrong)

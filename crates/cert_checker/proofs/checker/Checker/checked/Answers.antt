use Rattle.cert_checker.proofs.Answering.{that_verdict, that_fault, never_both_ways}
use Rattle.cert_checker.proofs.checker.Checker.checked.Goals as goal

pub returns-in-Ok-clause-accepted : goal.returns-in-Ok-clause-accepted
returns-in-Ok-clause-accepted c = λ verdict accepted. that_verdict c.in-Ok.verdict verdict c.unit-scale.result c.args.self.now.scale c.reasoned_answer.result c.in-Ok.is c.unit-scale.ensures (c.reasoned_answer.ensures.accepted verdict accepted)

pub returns-in-Ok-clause-log : goal.returns-in-Ok-clause-log
returns-in-Ok-clause-log c = λ line kind wrong. never_both_ways c.in-Ok.verdict _ c.reasoned_answer.result c.in-Ok.is (c.reasoned_answer.ensures.log line kind wrong)

pub returns-in-Err-clause-accepted : goal.returns-in-Err-clause-accepted
returns-in-Err-clause-accepted c = λ verdict accepted. never_both_ways verdict _ c.reasoned_answer.result (c.reasoned_answer.ensures.accepted verdict accepted) c.in-Err.is

pub returns-in-Err-clause-log : goal.returns-in-Err-clause-log
returns-in-Err-clause-log c = λ line kind wrong. that_fault c.in-Err.fault _ c.reasoned_answer.result c.in-Err.is (c.reasoned_answer.ensures.log line kind wrong)

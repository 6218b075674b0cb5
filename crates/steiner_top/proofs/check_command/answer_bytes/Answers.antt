use Rattle.std.proofs.lemmas.Result.{IfOk-weaker}
use Rattle.steiner_top.proofs.Reasons.{check_answered}
use Rattle.steiner_top.proofs.check_command.answer_bytes.Goals as goal

pub returns-clause-answer : goal.returns-clause-answer
returns-clause-answer c = IfOk-weaker c.answer_to.result _ _ (λ a line. check_answered c.args.stp.now c.args.log.now c.check_file.result a.status a.text.items c.check_file.ensures.concludes c.check_file.ensures.exact c.check_file.ensures.accepted c.check_file.ensures.file c.check_file.ensures.log line) c.answer_to.ensures.line

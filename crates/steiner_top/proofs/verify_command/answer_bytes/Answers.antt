use Rattle.std.proofs.lemmas.Result.{IfOk-weaker}
use Rattle.steiner_top.proofs.Verifying.{verified_file}
use Rattle.steiner_top.proofs.verify_command.answer_bytes.Goals as goal

pub returns-in-Ok-clause-answer : goal.returns-in-Ok-clause-answer
returns-in-Ok-clause-answer c =
    let reading = c.in-Ok.reading in
    IfOk-weaker c.answer_solution.result _ _
    (λ a line. verified_file c.args.stp.now c.args.solution.now reading.instance reading.scale a.status a.text.items c.in-Ok.ensures.found line) c.answer_solution.ensures.line

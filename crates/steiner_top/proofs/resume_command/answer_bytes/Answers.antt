use Rattle.command_line.specs.Seen.{resume_words}
use Rattle.steiner_top.proofs.Resuming.{resumption_answers}
use Rattle.steiner_top.proofs.resume_command.answer_bytes.Goals as goal

pub returns-in_ok-text-in-Ok : goal.returns-in_ok-text-in-Ok
returns-in_ok-text-in-Ok g c = resumption_answers (resume_words c.args.words.now) c.args.stp.now c.args.log.now c.in-Ok.outcome c.outcome_status-status.result c.in_ok-text-in-Ok.text.items c.in-Ok.ensures.exact c.outcome_status-status.ensures c.in_ok-text-in-Ok.ensures

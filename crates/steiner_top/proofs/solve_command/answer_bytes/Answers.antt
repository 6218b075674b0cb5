use Rattle.command_line.specs.Seen.{solve_words}
use Rattle.steiner_top.proofs.Solutions.{outcome_answers}
use Rattle.steiner_top.proofs.solve_command.answer_bytes.Goals as goal

pub returns-in_ok-text-in-Ok : goal.returns-in_ok-text-in-Ok
returns-in_ok-text-in-Ok g c = outcome_answers (solve_words c.args.words.now) c.args.bytes.now c.in-Ok.outcome c.outcome_status-status.result c.in_ok-text-in-Ok.text.items c.in-Ok.ensures.exact c.outcome_status-status.ensures c.in_ok-text-in-Ok.ensures

use Rattle.std.proofs.Common.{map, string_bytes}
use Rattle.command_line.specs.Words.{command_of}
use Rattle.steiner_top.specs.Causes.{loads_of}
use Rattle.steiner_top.proofs.Asking.{asks_none}
use Rattle.steiner_top.proofs.answering.answer.Goals as goal

pub returns-in-Ok-Solve-clause-unsaved : goal.returns-in-Ok-Solve-clause-unsaved
returns-in-Ok-Solve-clause-unsaved g c = λ failed. let u = c.solve_command.ensures.unsaved failed in (u.0, u.1, u.2, rw (c.in-Ok-Solve.ensures.found, c.in-Ok-Solve.field-0-is) u.3)

pub returns-in-Ok-Resume-clause-unsaved : goal.returns-in-Ok-Resume-clause-unsaved
returns-in-Ok-Resume-clause-unsaved g c = λ failed. let u = c.resume_command.ensures.unsaved failed in (u.0, u.1, u.2, rw (c.in-Ok-Resume.ensures.found, c.in-Ok-Resume.field-0-is) u.3)

pub returns-in_ok-trial_command-in-Ok-Trial-clause-asked : goal.returns-in_ok-trial_command-in-Ok-Trial-clause-asked
returns-in_ok-trial_command-in-Ok-Trial-clause-asked g c = asks_none (g.F.Shelf.asked c.args.shelf.now) (loads_of (command_of (map string_bytes c.args.words.now)))

-- A command of the code as the command of the words that it stands for.
use Rattle.std.specs.Prelude.{option_copied}
use Rattle.command_line.specs.declared.cmd.Cmd.{Cmd}
use Rattle.command_line.specs.declared.cmd.Cmd.TheVariants.{Solve, Check, Gen, Trial, Few, Verify, Resume}
use Rattle.command_line.specs.declared.cmd.SolveWords.{SolveWords}
use Rattle.command_line.specs.declared.cmd.CheckWords.{CheckWords}
use Rattle.command_line.specs.declared.cmd.DrawWords.{DrawWords}
use Rattle.command_line.specs.declared.cmd.GenWords.{GenWords}
use Rattle.command_line.specs.declared.cmd.TrialWords.{TrialWords}
use Rattle.command_line.specs.declared.cmd.FewWords.{FewWords}
use Rattle.command_line.specs.declared.cmd.VerifyWords.{VerifyWords}
use Rattle.command_line.specs.declared.cmd.ResumeWords.{ResumeWords}
use Rattle.command_line.specs.Words.{SolveWords as Solved, CheckWords as Checked, DrawWords as Drawn, GenWords as Generated, TrialWords as Tried, FewWords as Counted, VerifyWords as Verified, ResumeWords as Resumed, Command, solve, check, gen, trial, few, verify, resume}

abbrev pub solve_words : SolveWords → Solved
solve_words w = record { file = w.file.now; workers = w.workers; nodes = w.nodes; log_name = option_copied w.log_name; plain = w.plain; links = w.links }

abbrev pub check_words : CheckWords → Checked
check_words w = record { file = w.file.now; log_name = w.log_name.now }

abbrev pub draw_words : DrawWords → Drawn
draw_words w = record { seed = w.seed; n = w.n; m = w.m; t = w.t }

abbrev pub gen_words : GenWords → Generated
gen_words w = record { drawn = draw_words w.drawn; prizes = w.prizes }

abbrev pub trial_words : TrialWords → Tried
trial_words w = record { drawn = draw_words w.drawn; workers = w.workers }

abbrev pub few_words : FewWords → Counted
few_words w = record { file = w.file.now }

abbrev pub verify_words : VerifyWords → Verified
verify_words w = record { file = w.file.now; solution = w.solution.now }

abbrev pub resume_words : ResumeWords → Resumed
resume_words w = record { file = w.file.now; log_name = w.log_name.now; workers = w.workers; nodes = w.nodes; save_name = option_copied w.save_name }

-- the command without where its words lie in memory
abbrev pub command : Cmd → Command
command (Solve w) = solve (solve_words w)
command (Check w) = check (check_words w)
command (Gen w) = gen (gen_words w)
command (Trial w) = trial (trial_words w)
command (Few w) = few (few_words w)
command (Verify w) = verify (verify_words w)
command (Resume w) = resume (resume_words w)

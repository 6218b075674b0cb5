use Rattle.std.proofs.Common.{drop}
use Rattle.log_resume.proofs.Weighing.{IsWalking}
use Rattle.log_resume.proofs.growing.after_all.Given as goal

abbrev pub invariant-loop-line : goal.invariant-loop-line
invariant-loop-line l = IsWalking l.fn.walk.instance l.fn.walk.path l.top l.lines l.walk l.least (drop l.line-index l.lines)

use Rattle.std.proofs.Common.{length}
use Rattle.log_resume.proofs.Nexts.{IsWalked}
use Rattle.log_resume.proofs.closes.Closes.next_below.Given as goal

abbrev pub invariant-loop-line : goal.invariant-loop-line
invariant-loop-line l = IsWalked l.fn.self.instance l.least l.fn.self.nodes l.open l.number l.lines

abbrev pub decreases-loop-line : goal.decreases-loop-line
decreases-loop-line l = length l.lines

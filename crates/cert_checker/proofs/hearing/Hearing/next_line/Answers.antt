use Rattle.std.proofs.Common.{arith}
use Rattle.cert_checker.proofs.hearing.Hearing.next_line.Goals as goal

pub returns : goal.returns
returns c = rw (← c.self.view_is) (omega (arith, c.self.invariant.counted))

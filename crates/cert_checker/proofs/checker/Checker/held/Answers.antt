use Rattle.cert_checker.proofs.Answering.{held_so}
use Rattle.cert_checker.proofs.checker.Checker.held.Goals as goal

pub returns : goal.returns
returns c = let v = c.self.inside in rw (← c.self.view_is) (held_so v.hearing.lines v.is_bad v.part.items v.fed c.held.result c.self.invariant c.held.ensures)

use Rattle.log_format.proofs.Preorders.{one_from}
use Rattle.log_format.proofs.proof.Proof.lines.Goals as goal

pub returns-clause-one : goal.returns-clause-one
returns-clause-one c = rw (← c.self.view_is) (one_from c.self.inside.lines.items c.self.invariant)

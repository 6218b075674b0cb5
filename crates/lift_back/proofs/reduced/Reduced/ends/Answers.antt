use Rattle.lift_back.proofs.reduced.Reduced.ends.Goals as goal

pub returns-clause-ends : goal.returns-clause-ends
returns-clause-ends c = rw (← c.self.view_is) c.ends_of.ensures

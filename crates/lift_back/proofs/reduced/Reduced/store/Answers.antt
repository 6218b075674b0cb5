use Rattle.lift_back.proofs.KeptAfter.{not_gone}
use Rattle.lift_back.proofs.reduced.Reduced.store.Goals as goal

pub returns-clause-present : goal.returns-clause-present
returns-clause-present c = rw (← c.self.view_is) (λ v vertex. not_gone c.self.inside.rest.store v vertex)

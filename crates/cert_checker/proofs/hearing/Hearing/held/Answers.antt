use Rattle.std.proofs.Common.{length, ap, ◌∙◌}
use Rattle.cert_checker.specs.Held.{Open}
use Rattle.cert_checker.proofs.hearing.Hearing.held.Goals as goal

pub returns : goal.returns
returns c = rw (← c.self.view_is) (c.self.invariant.items, c.self.invariant.are, c.count.ensures ∙ ap (λ (o : Open). length o.splits) c.self.invariant.held)

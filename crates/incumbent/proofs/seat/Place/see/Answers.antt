use Rattle.std.proofs.Common.{rules}
use Rattle.incumbent.proofs.Steps.{looks}
use Rattle.incumbent.proofs.seat.Place.see.Goals as goal

pub load-requires : goal.load-requires
load-requires c = (search rules, search rules, looks c.deref-word.result.now.shared.key _ _ c.self.inside.seat.me c.self.invariant.2 c.self.invariant.3)

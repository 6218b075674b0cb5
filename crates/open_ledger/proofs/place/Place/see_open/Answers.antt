use Rattle.std.proofs.Common.{rules}
use Rattle.open_ledger.proofs.Steps.{looks}
use Rattle.open_ledger.proofs.place.Place.see_open.Goals as goal

pub load-requires : goal.load-requires
load-requires c = (search rules, search rules, looks c.deref-words.result.now.shared.key _ _ c.self.inside.seat.me c.self.invariant.2 c.self.invariant.3)

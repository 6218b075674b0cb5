use Rattle.std.proofs.Common.{rules}
use Rattle.open_ledger.proofs.Steps.{stops}
use Rattle.open_ledger.proofs.place.Place.halt.Goals as goal

pub store-requires : goal.store-requires
store-requires c = (search rules, search rules, stops c.deref-words.result.now.shared.key _ _ c.self.inside.seat.me c.self.invariant.2 c.self.invariant.3)

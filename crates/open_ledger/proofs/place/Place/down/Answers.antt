use Rattle.std.proofs.Common.{rules}
use Rattle.open_ledger.proofs.Steps.{downs}
use Rattle.open_ledger.proofs.place.Place.down.Goals as goal

pub fetch_sub-requires : goal.fetch_sub-requires
fetch_sub-requires c = (search rules, search rules, downs c.deref-words.result.now.shared.key _ _ c.self.inside.seat.me c.self.invariant.2 c.self.invariant.3)

use Rattle.std.proofs.Common.{rules}
use Rattle.open_ledger.proofs.Steps.{claims}
use Rattle.open_ledger.proofs.place.Place.claim.Goals as goal

pub fetch_add-requires : goal.fetch_add-requires
fetch_add-requires c = (search rules, search rules, claims c.deref-words.result.now.shared.key _ _ c.self.inside.seat.me c.self.invariant.2 c.self.invariant.3 (search rules))

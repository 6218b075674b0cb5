use Rattle.std.proofs.Common.{rules}
use Rattle.incumbent.proofs.Steps.{offers}
use Rattle.incumbent.proofs.seat.Place.offer.Goals as goal

pub fetch_min-found-requires : goal.fetch_min-found-requires
fetch_min-found-requires c = (search rules, search rules, offers c.deref-word.result.now.shared.key _ _ c.args.value c.self.inside.seat.me c.self.invariant.2 c.self.invariant.3)

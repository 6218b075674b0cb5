use Rattle.std.proofs.Common.{rules}
use Rattle.open_ledger.proofs.Joining.{merges}
use Rattle.open_ledger.proofs.place.Place.take_in.Goals as goal

pub join_seat-requires : goal.join_seat-requires
join_seat-requires c = (search rules, search rules, search rules, search rules, merges c.deref-words.result.now.shared.key _ c.self.inside.seat.me.0 _ _ c.self.invariant.3)

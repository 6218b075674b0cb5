use Rattle.std.proofs.Common.{rules}
use Rattle.incumbent.proofs.Joining.{merges}
use Rattle.incumbent.proofs.seat.Place.take_in.Goals as goal

pub join_seat-requires : goal.join_seat-requires
join_seat-requires c = (search rules, search rules, search rules, search rules, merges c.deref-word.result.now.shared.key _ c.self.inside.seat.me.0 _ _ c.self.invariant.3 (search rules))

use Rattle.std.proofs.Common.{rules, ◌<◌}
use Rattle.incumbent.proofs.Joining.{forks}
use Rattle.incumbent.proofs.seat.Place.another.Goals as goal

pub split_seat-seat-requires : goal.split_seat-seat-requires
split_seat-seat-requires c = let many : 1 < c.self.inside.seat.me.0.parts = search rules in (search rules, search rules, forks c.deref-word.result.now.shared.key _ c.self.inside.seat.me.0 many)

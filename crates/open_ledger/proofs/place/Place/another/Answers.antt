use Rattle.std.proofs.Common.{rules, ◌<◌, ◌≡◌}
use Rattle.open_ledger.proofs.Joining.{forks}
use Rattle.open_ledger.proofs.place.Place.another.Goals as goal

pub split_seat-seat-requires : goal.split_seat-seat-requires
split_seat-seat-requires c = let many : 1 < c.self.inside.seat.me.0.parts = search rules in let unclaimed : c.self.inside.seat.me.0.refused ≡ 0 = search rules in
    (search rules, search rules, forks c.deref-words.result.now.shared.key _ c.self.inside.seat.me.0 many unclaimed)

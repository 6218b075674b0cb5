use Rattle.std.proofs.Common.{◌≡◌, ◌-◌, [], All, length}
use Rattle.incumbent.specs.Rule.{hand}
use Rattle.incumbent.specs.Seat.{fresh}
use Rattle.incumbent.proofs.board.Incumbent.begin.Given as goal

abbrev pub invariant-loop : goal.invariant-loop
invariant-loop l = (l.counter ≡ length l.all.items) × (l.own.hand ≡ hand (65 - length l.all.items) l.fn.start [] l.fn.start)
    × All (λ s. s ≡ fresh l.own.incumbent l.fn.start) l.all.items

use Rattle.std.proofs.Common.{◌≡◌, All}
use Rattle.incumbent.specs.Joined.{joined}
use Rattle.incumbent.proofs.board.take_all.Given as goal

abbrev pub invariant-loop-seat : goal.invariant-loop-seat
invariant-loop-seat l =
    (goal.iterator-loop-seat).can_next l.seat-iterator × (goal.iterator-loop-seat).is_finite l.seat-iterator
    × (l.own.incumbent ≡ l.initial.own.incumbent) × All (λ s. s.incumbent ≡ l.own.incumbent) l.seat-iterator.rest.items
    × (joined l.own.hand l.seat-iterator.rest.items ≡ joined l.fn.own.hand l.fn.seats.items)

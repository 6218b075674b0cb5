use Rattle.std.proofs.Common.{◌≡◌, ◌+◌, length, All}
use Rattle.open_ledger.specs.Joined.{joined}
use Rattle.open_ledger.specs.Seat.{SaysWhy}
use Rattle.open_ledger.proofs.ledger.take_all.Given as goal

abbrev pub invariant-loop-seat : goal.invariant-loop-seat
invariant-loop-seat l =
    (goal.iterator-loop-seat).can_next l.seat-iterator × (goal.iterator-loop-seat).is_finite l.seat-iterator
    × (l.own.ledger ≡ l.initial.own.ledger) × All (λ s. s.ledger ≡ l.own.ledger) l.seat-iterator.rest.items
    × (joined l.own.tally l.seat-iterator.rest.items ≡ joined l.fn.own.tally l.fn.seats.items)
    × (l.own.tally.parts + length l.seat-iterator.rest.items ≡ l.fn.own.tally.parts + length l.fn.seats.items)
    × (All SaysWhy l.seat-iterator.rest.items → All SaysWhy l.fn.seats.items)

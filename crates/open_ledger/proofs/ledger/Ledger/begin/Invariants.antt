use Rattle.std.proofs.Common.{◌≡◌, ◌-◌, ◌==◌, if◌then◌else◌, All, length}
use Rattle.open_ledger.specs.Tally.{tally}
use Rattle.open_ledger.specs.Seat.{fresh}
use Rattle.open_ledger.proofs.ledger.Ledger.begin.Given as goal

abbrev pub invariant-loop : goal.invariant-loop
invariant-loop l = (l.counter ≡ length l.all.items)
    × (l.own.tally ≡ tally l.fn.budget (65 - length l.all.items) 0 0 (if length l.all.items == 0 then 1 else 0) 0 0 0 0)
    × All (λ s. s ≡ fresh l.own.ledger l.fn.budget) l.all.items

use Rattle.std.proofs.Common.{rules, arith, ◌≡◌, ◌+◌, ◌∷◌, ◌∙◌, sym, length}
use Rattle.open_ledger.proofs.Together.{goes_on, says-cons}
use Rattle.open_ledger.proofs.ledger.take_all.Goals as goal

pub loop-seat-preserved : goal.loop-seat-preserved
loop-seat-preserved c =
    let i = c.loop-seat.invariant in
    let same = c.take_in.ensures.same ∙ i.2 in
    let is : c.loop-seat.seat-iterator.rest.items ≡ c.in-Some.seat ∷ c.next.new.self.rest.items = search rules in
    let on = goes_on c.loop-seat.own.tally c.take_in.new.self.tally c.under.result.tally c.loop-seat.own.ledger _ c.next.new.self.rest.items c.in-Some.seat _ is
    c.take_in.ensures.both c.under.ensures.tally i.3 i.4 in
    let parts : c.take_in.new.self.tally.parts ≡ c.loop-seat.own.tally.parts + 1 = search rules in
    let count : length c.loop-seat.seat-iterator.rest.items ≡ 1 + length c.next.new.self.rest.items = search rules in
    let before = i.5 in (
      tt,
      tt,
      same,
      (λ k d lt. on.0 k d lt ∙ sym c.take_in.ensures.same),
      on.1,
      omega arith,
      λ later. i.6 (says-cons c.in-Some.seat _ c.next.new.self.rest.items is c.under.ensures.why later),
    )

use Rattle.std.proofs.Common.{rules, ◌≡◌, ◌∷◌, ◌∙◌, sym}
use Rattle.incumbent.proofs.Together.{goes_on}
use Rattle.incumbent.proofs.board.take_all.Goals as goal

pub loop-seat-preserved : goal.loop-seat-preserved
loop-seat-preserved c =
    let i = c.loop-seat.invariant in
    let same = c.take_in.ensures.same ∙ i.2 in
    let is : c.loop-seat.seat-iterator.rest.items ≡ c.in-Some.seat ∷ c.next.new.self.rest.items = search rules in
    let on = goes_on c.loop-seat.own.hand c.take_in.new.self.hand c.under.result.hand c.under.result.incumbent c.loop-seat.own.incumbent _ c.next.new.self.rest.items c.in-Some.seat _ is
    c.take_in.ensures.both c.under.ensures.one c.under.ensures.same i.3 i.4 in
    (tt, tt, same, (λ k d lt. on.0 k d lt ∙ sym c.take_in.ensures.same), on.1)

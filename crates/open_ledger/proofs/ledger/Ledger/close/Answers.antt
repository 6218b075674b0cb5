use Rattle.std.proofs.Common.{rules, sym, subst}
use Rattle.open_ledger.specs.Rule.{IsClaimWord}
use Rattle.open_ledger.specs.Seat.{granted_of, refused_of}
use Rattle.open_ledger.proofs.Together.{Whole, whole, whole_busy, busy_all, opened, claimed, halted, idle, someone}
use Rattle.open_ledger.proofs.ledger.Ledger.close.Goals as goal
use Rattle.open_ledger.proofs.ledger.Ledger.close.Goals.{After-take_all, After-see_claims}

-- when all seats were taken in
taken : (c : After-take_all) → Whole c.self.inside.budget c.args.seats.items c.take_all.new.own.tally
taken c = whole c.self.inside.budget c.self.inside.seats c.self.inside.own.tally c.take_all.new.own.tally c.args.seats.items c.self.invariant c.take_all.ensures.joined c.take_all.ensures.parts (search rules)

-- when the open word was seen
looked : (c : After-see_claims) → Whole c.self.inside.budget c.args.seats.items c.see_open-opened.new.self.tally
looked c = whole_busy c.self.inside.budget c.args.seats.items c.take_all.new.own.tally c.see_open-opened.new.self.tally _ c.see_open-opened.ensures.tally (taken (goal.at.After-see_claims c).After-take_all)

-- what the claim word says
counted : (c : After-see_claims) → IsClaimWord c.self.inside.budget c.see_claims.result (granted_of c.args.seats.items) (refused_of c.args.seats.items)
counted c = claimed c.self.inside.budget c.see_claims.result c.args.seats.items c.see_open-opened.new.self.tally (looked c) c.see_claims.ensures.whole

pub returns-clause-opened : goal.returns-clause-opened
returns-clause-opened c = (opened c.self.inside.budget c.see_open-opened.result c.args.seats.items c.take_all.new.own.tally (taken (goal.at.returns-clause-opened c).After-take_all) c.see_open-opened.ensures.whole).0

pub returns-clause-idle : goal.returns-clause-idle
returns-clause-idle c = λ each.
    let know = opened c.self.inside.budget c.see_open-opened.result c.args.seats.items c.take_all.new.own.tally (taken (goal.at.returns-clause-idle c).After-take_all) c.see_open-opened.ensures.whole in
    idle c.see_open-opened.result c.take_all.new.own.tally.busy c.args.seats.items (busy_all c.self.inside.own.tally c.take_all.new.own.tally c.args.seats.items c.self.invariant.idle c.take_all.ensures.joined) know.1 each

pub returns-clause-claimed : goal.returns-clause-claimed
returns-clause-claimed c = let know = counted (goal.at.returns-clause-claimed c).After-see_claims in let is = c.min-claimed.ensures in search rules

pub returns-clause-within : goal.returns-clause-within
returns-clause-within c = let know = counted (goal.at.returns-clause-within c).After-see_claims in search rules

pub returns-clause-halted : goal.returns-clause-halted
returns-clause-halted c = halted c.self.inside.budget c.see_halt.result c.args.seats.items c.see_claims.new.self.tally
    (subst (Whole c.self.inside.budget c.args.seats.items) (sym c.see_claims.ensures.tally) (looked (goal.at.returns-clause-halted c).After-see_claims)) c.see_halt.ensures.whole

pub returns-clause-why : goal.returns-clause-why
returns-clause-why c = λ some. someone c.args.seats.items c.take_all.ensures.why (halted c.self.inside.budget c.see_halt.result c.args.seats.items c.see_claims.new.self.tally
    (subst (Whole c.self.inside.budget c.args.seats.items) (sym c.see_claims.ensures.tally) (looked (goal.at.returns-clause-why c).After-see_claims)) c.see_halt.ensures.whole some)

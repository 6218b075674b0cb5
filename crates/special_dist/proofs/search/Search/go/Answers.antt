use Rattle.std.proofs.Common.{refl, ap}
use Rattle.special_dist.proofs.Going.{gone_one}
use Rattle.special_dist.proofs.search.Search.go.Goals as goal

pub returns-clause-gone : goal.returns-clause-gone
returns-clause-gone c =
    let may = c.if-not-lets_go.ensures.0 refl in
    gone_one c.args.store.now.network c.args.quest c.args.visit c.args.half c.requires.linked may.0 may.1 c.args.place
    (record { vertex = c.args.half.to; paid = c.paid_after.result; before = c.args.place }) c.args.self.now c.visit.new.self c.requires.visit c.requires.vertex c.if-half-quest.false
    (ap (λ paid. record { vertex = c.args.half.to; paid = paid; before = c.args.place }) c.paid_after.ensures) c.paid_after.type_inv c.in_ok-visit.ensures.visits

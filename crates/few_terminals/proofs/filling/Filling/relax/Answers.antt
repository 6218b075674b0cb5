use Rattle.std.proofs.Common.{◌≡◌, ◌+◌, ◌-◌, ◌^◌, ◌<◌, min, length, List, get_or, take, sym, subst, arith}
use Rattle.std.proofs.lemmas.List.{take_more, take_all}
use Rattle.std.proofs.lemmas.List.Elements.{Contains-get_or}
use Rattle.graph_store.specs.declared.half.Half.{Half}
use Rattle.few_terminals.specs.declared.entry.Way.TheVariants.{Along}
use Rattle.few_terminals.specs.declared.mark.Mark.{Mark}
use Rattle.few_terminals.specs.Filling.{mark_at, Offers}
use Rattle.few_terminals.proofs.Marking.{mark_read}
use Rattle.few_terminals.proofs.Offering.{HasRelaxed, relaxed_none, relaxed_more, relaxed_all}
use Rattle.few_terminals.proofs.filling.Filling.relax.Goals as goal

nothing : Half
nothing = record { to = 0; cost = 0 }

pub loop-half-init : goal.loop-half-init
loop-half-init c = relaxed_none c.args.store.now.network c.args.vertex c.args.self.now

pub loop-half-preserved : goal.loop-half-preserved
unfolding nothing
loop-half-preserved c =
    let I = c.args.store.now.network in
    let v = c.args.vertex in
    let marks = c.args.self.now.marks.items in
    let halves = c.neighbours-half-items.result.now in
    let i = c.loop-half.half-index in
    let are = c.neighbours-half-items.ensures.halves in
    let half : Half = get_or halves i nothing in
    let range = (are.others i nothing c.loop-half-test.true).0 in
    let linked = (are.linked half.to half.cost).0 (Contains-get_or halves i nothing c.loop-half-test.true) in
    let high = range.1 in
    let long = c.loop-half.invariant.long in
    let first = c.requires.marks in
    let within : half.to < length c.loop-half.self.marks.items = omega (arith, high, long, first) in
    let own = c.requires.vertex.1 in
    let read : c.index-mark.result.now ≡ mark_at marks v = mark_read marks v c.index-mark.result.now (omega (arith, own, first)) c.index-mark.ensures in
    let sum : c.saturating_add-cost.result ≡ min ((mark_at marks v).cost + half.cost) (2 ^ 64 - 1) = subst (λ (m : Mark). c.saturating_add-cost.result ≡ min (m.cost + half.cost) (2 ^ 64 - 1)) read c.saturating_add-cost.ensures in
    let offers : Offers c.loop-half.self c.offer.new.self c.saturating_add-cost.result half.to (Along (mark_at marks v).place) = subst (λ (m : Mark). Offers c.loop-half.self c.offer.new.self c.saturating_add-cost.result half.to (Along m.place)) read c.in_ok-offer.ensures.offers in
    subst (λ (hs : List Half). HasRelaxed I v hs c.args.self.now c.offer.new.self) (sym (take_more halves i nothing c.loop-half-test.true))
    (relaxed_more I v (take i halves) half c.args.self.now c.loop-half.self c.offer.new.self c.saturating_add-cost.result linked sum within range c.in_ok-offer.ensures.fewer c.loop-half.invariant offers)

pub returns-clause-relaxes : goal.returns-clause-relaxes
returns-clause-relaxes c =
    let I = c.args.store.now.network in
    let v = c.args.vertex in
    let halves = c.neighbours-half-items.result.now in
    let all = take_all c.loop-half.half-index halves c.loop-half-test.false in
    relaxed_all I v halves c.args.self.now c.loop-half.self c.neighbours-half-items.ensures.halves (subst (λ (hs : List Half). HasRelaxed I v hs c.args.self.now c.loop-half.self) all c.loop-half.invariant)

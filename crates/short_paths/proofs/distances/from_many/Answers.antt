use Rattle.std.proofs.Common.{◌+◌, length, subst, ap, sym, ◌∙◌, List, arith}
use Rattle.std.specs.declared.alloc.Global.{Global}
use Rattle.std.specs.declared.vec.Vec.{Vec}
use Rattle.short_paths.specs.declared.mark.Mark.{Mark}
use Rattle.short_paths.specs.declared.queue.Offer.{Offer}
use Rattle.short_paths.specs.declared.settled.Settled.{Settled}
use Rattle.short_paths.specs.Marks.{places_of}
use Rattle.short_paths.specs.Searching.{open_count}
use Rattle.short_paths.specs.Steps.{IsGoing}
use Rattle.short_paths.proofs.MarkLists.{length-bests_of}
use Rattle.short_paths.proofs.Settling.{taken_range, open_count-replicate}
use Rattle.short_paths.proofs.Endings.{are_routes, are_places, going_moved}
use Rattle.short_paths.proofs.distances.from_many.Goals as goal

pub loop-offer-init : goal.loop-offer-init
loop-offer-init c = record {
  going = rw c.vertices.ensures.count at (c.in_ok-search.ensures.going c.args.store.now.network.links c.args.limit);
  counted =
      let none = ap length c.in_ok-search.ensures.settled in
      let all = ap open_count c.in_ok-search.ensures.places ∙ open_count-replicate (c.vertices.result + 1) in
      let same = c.vertices.ensures.count in
      omega arith;
}

pub take-requires-clause-to : goal.take-requires-clause-to
take-requires-clause-to c = (taken_range c.args.store.now.network.links c.args.store.now.network.n c.args.sources.now c.args.limit c.loop-offer.search c.loop-offer.search.queue c.next.new.self.queue c.in-Some.offer.cost c.in-Some.offer.to c.in-Some.offer.from c.in-Some.ensures.moved c.loop-offer.invariant.going).0

pub take-requires-clause-from : goal.take-requires-clause-from
take-requires-clause-from c = (taken_range c.args.store.now.network.links c.args.store.now.network.n c.args.sources.now c.args.limit c.loop-offer.search c.loop-offer.search.queue c.next.new.self.queue c.in-Some.offer.cost c.in-Some.offer.to c.in-Some.offer.from c.in-Some.ensures.moved c.loop-offer.invariant.going).1

pub take-requires-clause-marks : goal.take-requires-clause-marks
take-requires-clause-marks c =
    let long = c.loop-offer.invariant.going.kept.best_long in
    let same = length-bests_of c.loop-offer.search.marks.items in
    let kept = ap (λ (m : Vec Mark Global). length m.items) c.next.ensures.marks in
    omega arith

pub take-requires-clause-few : goal.take-requires-clause-few
take-requires-clause-few c =
    let counted = c.loop-offer.invariant.counted in
    let most = c.vertices.ensures.graph.instance.few_vertices in
    let kept = ap (λ (s : Vec Settled Global). length s.items) c.next.ensures.settled in
    omega arith

pub loop-offer-preserved : goal.loop-offer-preserved
loop-offer-preserved c = record {
  going = c.in_ok-take.ensures.going c.args.sources.now c.loop-offer.search.queue c.in-Some.ensures.moved c.in-Some.ensures.cheapest
      (going_moved c.args.store.now.network.links c.args.store.now.network.n c.args.sources.now c.args.limit c.loop-offer.search c.next.new.self c.loop-offer.search.queue c.next.ensures.marks c.next.ensures.settled c.loop-offer.invariant.going);
  counted =
      let counted = c.loop-offer.invariant.counted in
      let step = c.in_ok-take.ensures.counted in
      let same_settled = ap (λ (s : Vec Settled Global). length s.items) c.next.ensures.settled in
      let same_places = ap (λ (m : Vec Mark Global). open_count (places_of m.items)) c.next.ensures.marks in
      omega arith;
}

pub invariant_of-result : goal.invariant_of-result
invariant_of-result c =
    are_places c.args.store.now.network.links c.args.store.now.network.n c.args.sources.now c.args.limit c.next.new.self c.loop-offer.search.queue
    (going_moved c.args.store.now.network.links c.args.store.now.network.n c.args.sources.now c.args.limit c.loop-offer.search c.next.new.self c.loop-offer.search.queue c.next.ensures.marks c.next.ensures.settled c.loop-offer.invariant.going)

pub returns : goal.returns
returns c =
    let same = c.in_default.ensures.empty ∙ sym c.in_default.ensures.none in
    let going = subst (λ (q : List Offer). IsGoing c.args.store.now.network.links c.args.store.now.network.n c.args.sources.now c.args.limit c.next.new.self q) same
    (going_moved c.args.store.now.network.links c.args.store.now.network.n c.args.sources.now c.args.limit c.loop-offer.search c.next.new.self c.loop-offer.search.queue c.next.ensures.marks c.next.ensures.settled c.loop-offer.invariant.going) in
    are_routes c.args.store.now.network.links c.args.store.now.network.n c.args.sources.now c.args.limit c.next.new.self going (ap length c.in_default.ensures.none)

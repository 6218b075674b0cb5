use Rattle.std.proofs.Common.{◌∷◌, List, get_or, take, sym, subst, ◌∙◌, arith}
use Rattle.std.proofs.lemmas.List.{take_more, take_all}
use Rattle.std.specs.BinaryHeap.{heap_items}
use Rattle.bidirected_form.specs.declared.arc.Arc.{Arc}
use Rattle.bidirected_form.specs.Digraph.{arcs_into}
use Rattle.dual_ascent.specs.Searching.{Offer}
use Rattle.dual_ascent.proofs.Offered.{IsFollowing, walk_more, follow_more, followed_all, offers_long}
use Rattle.dual_ascent.proofs.searching.Search.follow.Goals as goal

nothing : Arc
nothing = record { tail = 0; remaining = 0 }

pub offer-requires-clause-vertex : goal.offer-requires-clause-vertex
unfolding nothing
offer-requires-clause-vertex c =
    let row = c.arcs_into-arc-items.ensures.all in
    let below = rw row at c.loop-arc-test.true in
    let tail = ((c.arcs_into-arc-items.ensures.digraph.arcs c.args.head).tails c.loop-arc.arc-index nothing below).0 in
    rw row (omega (arith, tail.1, c.loop-arc.invariant.long))

pub loop-arc-preserved : goal.loop-arc-preserved
unfolding nothing
loop-arc-preserved c =
    let D = c.args.arcs.now in
    let i = c.loop-arc.arc-index in
    let arcs = arcs_into D c.args.head in
    let row = c.arcs_into-arc-items.ensures.all in
    let graph = c.arcs_into-arc-items.ensures.digraph in
    let below = rw row at c.loop-arc-test.true in
    let a : Arc = get_or arcs i nothing in
    let e : Offer = record { 0 = (c.args.distance, c.args.head) } in
    let tail = ((graph.arcs c.args.head).tails i nothing below).0 in
    let offers = rw (row, c.root.ensures.root) at c.in_ok-offer.ensures.offers in
    let sum = rw row at c.saturating_add.ensures in
    record {
      long = offers_long D.root c.loop-arc.self c.offer.new.self _ a.tail offers ∙ c.loop-arc.invariant.long;
      fewer = omega (arith, c.in_ok-offer.ensures.fewer, c.loop-arc.invariant.fewer);
      following = λ q target h. subst (λ (l : List Arc). IsFollowing D q target e l (heap_items c.offer.new.self.queue) c.offer.new.self.least.items) (sym (take_more arcs i nothing below))
          (follow_more D q target e (take i arcs) a c.loop-arc.self c.offer.new.self _ tail graph.root sum (walk_more D q target (e ∷ heap_items c.args.self.now.queue) c.args.self.now.least.items c.args.head c.args.distance i nothing graph c.requires.head below c.requires.least c.requires.root h) (c.loop-arc.invariant.following q target h) offers);
    }

pub returns-clause-goes : goal.returns-clause-goes
returns-clause-goes c q target h =
    let D = c.args.arcs.now in
    let arcs = arcs_into D c.args.head in
    let e : Offer = record { 0 = (c.args.distance, c.args.head) } in
    let past = rw c.arcs_into-arc-items.ensures.all at c.loop-arc-test.false in
    followed_all D q target e (heap_items c.loop-arc.self.queue) c.loop-arc.self.least.items (subst (λ (l : List Arc). IsFollowing D q target e l (heap_items c.loop-arc.self.queue) c.loop-arc.self.least.items) (take_all c.loop-arc.arc-index arcs past) (c.loop-arc.invariant.following q target h))

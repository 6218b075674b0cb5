use Rattle.std.proofs.Common.{◌∷◌, arith}
use Rattle.std.specs.BinaryHeap.{heap_items}
use Rattle.dual_ascent.specs.Searching.{Offer}
use Rattle.dual_ascent.proofs.Offered.{search_moved, distances_found}
use Rattle.dual_ascent.proofs.searching.distances_to.Goals as goal

pub take-requires-clause-head : goal.take-requires-clause-head
take-requires-clause-head c =
    let e : Offer = record { 0 = (c.in-Some.distance, c.in-Some.head) } in
    (search_moved c.args.arcs.now c.args.vertex c.args.target _ (e ∷ heap_items c.next.new.self.queue) c.loop-distance.search.least.items c.in-Some.ensures.moved c.loop-distance.invariant).queued 0 e (omega arith)

pub loop-distance-preserved : goal.loop-distance-preserved
loop-distance-preserved c =
    let e : Offer = record { 0 = (c.in-Some.distance, c.in-Some.head) } in
    c.in_ok-take.ensures.goes c.args.vertex c.args.target (rw c.next.ensures.least (search_moved c.args.arcs.now c.args.vertex c.args.target _ (e ∷ heap_items c.next.new.self.queue) c.loop-distance.search.least.items c.in-Some.ensures.moved c.loop-distance.invariant))

pub returns : goal.returns
returns c = distances_found c.args.arcs.now c.args.vertex c.args.target _ c.next.new.self.least.items c.in_default.ensures.empty (rw c.next.ensures.least c.loop-distance.invariant)

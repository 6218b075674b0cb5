use Rattle.std.proofs.Common.{◌<◌, ◌≤◌, length, refl, ◌∙◌, arith}
use Rattle.twice_tree.proofs.Opened.{cell_none, cell_more, cell_all}
use Rattle.twice_tree.proofs.opening.Opening.open.Goals as goal

pub loop-vertex-init : goal.loop-vertex-init
loop-vertex-init c =
    let I = c.args.store.now.network in
    let old = c.args.self.now in
    let within : c.args.terminal < length old.least.items = (let least = c.requires.least in let low = c.requires.terminal in omega (arith, least, low)) in
    cell_none I c.args.cells.now c.args.terminal c.first-vertex.result old _ within refl refl (c.first-vertex.ensures I c.requires.cells)

pub offer_links-requires-clause-vertex : goal.offer_links-requires-clause-vertex
offer_links-requires-clause-vertex c = (c.loop-vertex.invariant.positive, (let low = c.loop-vertex-test.true in let count = c.vertices.ensures.count in omega (arith, low, count)))

pub offer_links-requires-clause-least : goal.offer_links-requires-clause-least
offer_links-requires-clause-least c = c.loop-vertex.invariant.opens.many ∙ c.requires.least

pub loop-vertex-smaller : goal.loop-vertex-smaller
loop-vertex-smaller c =
    let I = c.args.store.now.network in
    let low = c.loop-vertex-test.true in
    let count = c.vertices.ensures.count in
    let place = c.place-vertex.ensures I c.requires.cells (c.loop-vertex.invariant.positive, omega (arith, low, count)) in
    let above = place.next.above in
    omega (arith, low, count, above)

pub loop-vertex-preserved : goal.loop-vertex-preserved
loop-vertex-preserved c =
    let I = c.args.store.now.network in
    let v = c.loop-vertex.vertex in
    let within : v ≤ I.n = (let low = c.loop-vertex-test.true in let count = c.vertices.ensures.count in omega (arith, low, count)) in
    let place = c.place-vertex.ensures I c.requires.cells (c.loop-vertex.invariant.positive, within) in
    cell_more I c.args.cells.now c.args.terminal v c.place-vertex.result.next c.args.self.now c.loop-vertex.self c.offer_links.new.self within place.next c.in_ok-offer_links.ensures c.loop-vertex.invariant

pub returns : goal.returns
returns c =
    let high = c.loop-vertex-test.false in
    let count = c.vertices.ensures.count in
    cell_all c.args.store.now.network c.args.cells.now c.args.terminal c.loop-vertex.vertex c.args.self.now c.loop-vertex.self (omega (arith, high, count)) c.loop-vertex.invariant

use Rattle.std.proofs.Common.{◌≡◌, ℕ, ◌+◌, ◌-◌, ◌^◌, ◌<◌, List, length, get_or, min, subst, ap, ◌∙◌, arith}
use Rattle.std.proofs.lemmas.List.{take_all}
use Rattle.std.proofs.lemmas.List.Elements.{Contains-get_or}
use Rattle.graph_store.specs.declared.half.Half.{Half}
use Rattle.twice_tree.specs.Cells.{far_in}
use Rattle.twice_tree.specs.Opening.{OffersHalves, sum_by}
use Rattle.twice_tree.proofs.Nearest.{cell_range}
use Rattle.twice_tree.proofs.Opened.{halves_none, halves_more_at, halves_all}
use Rattle.twice_tree.proofs.opening.Opening.offer_links.Goals as goal

nothing : Half
nothing = record { to = 0; cost = 0 }

pub loop-half-init : goal.loop-half-init
loop-half-init c = halves_none c.args.store.now.network c.args.cells.now c.args.vertex c.args.self.now

pub offer-requires : goal.offer-requires
unfolding nothing
offer-requires c =
    let I = c.args.store.now.network in
    let cells = c.requires.cells in
    let half : Half = get_or c.neighbours-half-items.result.now c.loop-half.half-index nothing in
    let vertex = (c.neighbours-half-items.ensures.halves.others c.loop-half.half-index nothing c.loop-half-test.true).0 in
    let place = c.place-place.ensures I cells vertex in
    let cell = place.terminal in
    let range = cell_range I cells.terminals c.args.cells.now.distances (2 ^ 64 - 1) half.to cells.those cells.routes vertex in
    let many = c.loop-half.invariant.opens.many in
    let least = c.requires.least in
    omega (arith, cell, range, many, least)

pub loop-half-preserved : goal.loop-half-preserved
unfolding nothing
loop-half-preserved c =
    let I = c.args.store.now.network in
    let cells = c.args.cells.now in
    let halves = c.neighbours-half-items.result.now in
    let i = c.loop-half.half-index in
    let within = c.loop-half-test.true in
    let half : Half = get_or halves i nothing in
    let vertex = (c.neighbours-half-items.ensures.halves.others i nothing within).0 in
    let linked = (c.neighbours-half-items.ensures.halves.linked half.to half.cost).0 (Contains-get_or halves i nothing within) in
    let from = c.place-far.ensures I c.requires.cells c.requires.vertex in
    let to = c.place-place.ensures I c.requires.cells vertex in
    let told : c.sum-cost.result ≡ min (sum_by cells c.args.vertex half.cost half.to) (2 ^ 64 - 1) =
    c.sum-cost.ensures ∙ (ap (λ (far : ℕ). min (far + half.cost + c.place-place.result.far) (2 ^ 64 - 1)) from.far ∙ ap (λ (far : ℕ). min (far_in cells.distances c.args.vertex + half.cost + far) (2 ^ 64 - 1)) to.far) in
    let cell = to.terminal in
    let range = cell_range I c.requires.cells.terminals cells.distances (2 ^ 64 - 1) half.to c.requires.cells.those c.requires.cells.routes vertex in
    let many = c.loop-half.invariant.opens.many in
    let least = c.requires.least in
    let inside : c.place-place.result.terminal < length c.loop-half.self.least.items = omega (arith, cell, range, many, least) in
    halves_more_at I cells c.args.vertex c.sum-cost.result c.place-place.result.terminal halves i nothing c.args.self.now c.loop-half.self c.offer.new.self within linked told cell inside c.in_ok-offer.ensures c.loop-half.invariant

pub returns : goal.returns
returns c =
    let halves = c.neighbours-half-items.result.now in
    let all = take_all c.loop-half.half-index halves c.loop-half-test.false in
    halves_all c.args.store.now.network c.args.cells.now c.args.vertex halves c.args.self.now c.loop-half.self c.neighbours-half-items.ensures.halves
    (subst (λ (hs : List Half). OffersHalves c.args.store.now.network c.args.cells.now c.args.vertex hs c.args.self.now c.loop-half.self) all c.loop-half.invariant)

use Rattle.std.proofs.Common.{rules, ℕ, ◌<◌, [], ◌∷◌, length, ap, ◌∙◌, arith}
use Rattle.st_model.proofs.ThinGrowth.{made-vertex, length-take_extends}
use Rattle.st_model.proofs.ThinSettled.{reaches-head, AreSettled-start, AreSettled-more}
use Rattle.st_model.proofs.thinning.all_arcs.Goals as goal

pub reach-requires-clause-growth : goal.reach-requires-clause-growth
reach-requires-clause-growth c = c.in_ok-growth.ensures.growth c.args.links.now

pub loop-next-init : goal.loop-next-init
loop-next-init c = (
  c.in_ok-reach.ensures.growth,
  AreSettled-start c.args.links.now c.args.start c.reach.new.self.arcs.items c.at-first.result.now c.in_ok-reach.ensures.heads (c.at-first.ensures ∙ c.requires.neighbours c.args.start c.requires.start.1),
  omega arith,
)

pub at-heads-requires : goal.at-heads-requires
at-heads-requires c =
    let small = made-vertex c.args.instance.now c.args.links.now c.loop-next.growth.arcs.items c.loop-next.next c.index.result.now c.requires.instance c.requires.links c.loop-next.invariant.0.made (search rules) c.index.ensures in
    omega (arith, c.requires.length, small)

pub reach-requires-in-loop-next-clause-tail : goal.reach-requires-in-loop-next-clause-tail
reach-requires-in-loop-next-clause-tail c =
    let arcs = c.loop-next.growth.arcs.items in
    let arc = c.index.result.now in
    rw c.index.ensures (reaches-head (c.args.start ∷ []) arcs c.loop-next.next arc (search rules))

pub reach-requires-in-loop-next-clause-heads : goal.reach-requires-in-loop-next-clause-heads
reach-requires-in-loop-next-clause-heads c =
    let tail = c.index.result.now.1 in
    let small = made-vertex c.args.instance.now c.args.links.now c.loop-next.growth.arcs.items c.loop-next.next c.index.result.now c.requires.instance c.requires.links c.loop-next.invariant.0.made (search rules) c.index.ensures in
    c.at-heads.ensures ∙ c.requires.neighbours tail small

pub loop-next-preserved : goal.loop-next-preserved
loop-next-preserved c =
    let next = c.loop-next.next in
    let arcs = c.loop-next.growth.arcs.items in
    let new = c.reach-in-loop-next.new.self.arcs.items in
    let more = c.in_ok-reach-2.ensures in
    let longer = length-take_extends arcs new more.extends in
    let in_range : next < length arcs = search rules in
    let tail = c.index.result.now.1 in
    let small = made-vertex c.args.instance.now c.args.links.now arcs next c.index.result.now c.requires.instance c.requires.links c.loop-next.invariant.0.made in_range c.index.ensures in
    let heads = c.at-heads.ensures ∙ c.requires.neighbours tail small in (
      more.growth,
      AreSettled-more c.args.links.now c.args.start arcs new next c.at-heads.result.now c.index.result.now.1 c.index.result.now c.loop-next.invariant.1 in_range more.extends (ap (λ (a : ℕ × ℕ). a.1) c.index.ensures) more.heads heads,
      omega arith,
    )

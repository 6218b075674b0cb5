use Rattle.std.proofs.Common.{ap, ◌∙◌, subst, sym, take, ◌+◌, arith}
use Rattle.st_model.specs.declared.thinning.Growth.{Growth}
use Rattle.st_model.specs.Growth.{HasReached}
use Rattle.st_model.proofs.ThinGrowth.{neighbour-vertex, HasReached-push, HasReached-same}
use Rattle.st_model.proofs.thinning.Growth.reach.Goals.{then-not-index+in_ok-push, else-not-index}
use Rattle.st_model.proofs.thinning.Growth.reach.Goals as goal

pub index-requires : goal.index-requires
index-requires c =
    let small = neighbour-vertex c.args.instance.now c.args.links.now c.args.tail c.args.heads.now c.loop-head.head-index c.requires.instance c.requires.links c.requires.heads c.loop-head-test.true in
    omega (arith, c.loop-head.invariant.growth.marks.long, small)

pub index_mut-requires : goal.index_mut-requires
index_mut-requires c =
    let small = neighbour-vertex c.args.instance.now c.args.links.now c.args.tail c.args.heads.now c.loop-head.head-index c.requires.instance c.requires.links c.requires.heads c.loop-head-test.true in
    omega (arith, c.loop-head.invariant.growth.marks.long, small)

pub loop-head-preserved : goal.loop-head-preserved
loop-head-preserved c =
    let instance = c.args.instance.now in
    let links = c.args.links.now in
    let first = c.args.self.now.arcs.items in
    elim c.if-not-index.branch [
      | then-not-index+in_ok-push w ↦ HasReached-push instance links c.args.start first c.args.heads.now c.loop-head.head-index c.args.tail c.loop-head.self c.if-not-index.self c.index.result.now c.loop-head.invariant c.requires.instance c.requires.links c.requires.tail c.requires.heads c.loop-head-test.true c.index.ensures w.if-not-index.true (ap (λ (g : Growth). g.arcs.items) w.self-is ∙ w.in_ok-push.ensures.items) (ap (λ (g : Growth). g.marked.items) w.self-is)
      | else-not-index w ↦ subst (λ (g : Growth). HasReached instance links c.args.start first (take (c.loop-head.head-index + 1) c.args.heads.now) g) (sym w.self-is) (HasReached-same instance links c.args.start first c.args.heads.now c.loop-head.head-index c.args.tail c.loop-head.self c.index.result.now c.loop-head.invariant c.requires.instance c.requires.links c.requires.heads c.loop-head-test.true c.index.ensures w.if-not-index.false)
    ]

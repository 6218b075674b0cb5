use Rattle.std.proofs.Common.{arith}
use Rattle.graph_store.specs.declared.half.Half.{Half}
use Rattle.tree_heuristic.proofs.growing.Growing.expand.Goals.{then-not-is_outside+in_ok-offer, else-not-is_outside}
use Rattle.tree_heuristic.proofs.growing.Growing.expand.Goals as goal

nothing : Half
nothing = record { to = 0; cost = 0 }

pub loop-half-preserved : goal.loop-half-preserved
unfolding nothing
loop-half-preserved c =
    let halves = c.neighbours-half-items.result.now in
    let n = c.args.store.now.network.n in
    let vertex = (c.neighbours-half-items.ensures.halves.others c.loop-half.half-index nothing c.loop-half-test.true).0 in
    let before = c.loop-half.invariant.1 in
    elim c.if-not-is_outside.branch [
      | then-not-is_outside+in_ok-offer w ↦ rw w.self-is (w.in_ok-offer.ensures.growing n vertex c.requires.vertex c.loop-half.invariant.0, (let fewer = w.in_ok-offer.ensures.fewer in omega arith))
      | else-not-is_outside w ↦ rw w.self-is c.loop-half.invariant
    ]

use Rattle.std.proofs.Common.{◌<◌, length, true, sym, subst, ◌∙◌, length-set, arith}
use Rattle.st_model.specs.Network.{IsVertex}
use Rattle.tree_heuristic.proofs.growing.Growing.join.Goals as goal

pub loop-self-preserved : goal.loop-self-preserved
loop-self-preserved c =
    let n = c.args.store.now.network.n in
    let g = c.loop-self.invariant.0 in
    let high = c.loop-self.invariant.1.1 in
    let long = g.from_long in
    let within : c.loop-self.here < length c.loop-self.self.from.items = omega (arith, high, long) in
    let before : IsVertex n c.index-before.result.now = subst (IsVertex n) (sym c.index-before.ensures) (g.come_from c.loop-self.here c.index-before.result.now within) in
    let fewer = c.in_ok-offer.ensures.fewer in
    let so_far = c.loop-self.invariant.2 in (
      c.in_ok-offer.ensures.growing n c.loop-self.invariant.1 before (record {
        best_long = g.best_long;
        from_long = g.from_long;
        joined_long = length-set c.loop-self.self.joined.items c.loop-self.here true ∙ g.joined_long;
        come_from = g.come_from;
        queued = g.queued;
      }),
      before,
      omega (arith, fewer, so_far),
    )

use Rattle.std.proofs.Common.{arith}
use Rattle.short_paths.proofs.GoingAlong.{HasGone-next}
use Rattle.short_paths.proofs.laid.Laid.follow_path.Goals as goal

pub loop-place-preserved : goal.loop-place-preserved
loop-place-preserved c =
    HasGone-next c.args.store.now.network c.args.path.now c.loop-place.place c.args.self.now c.loop-place.self (omega (arith, c.loop-place-test.true)) c.loop-place.invariant c.follow.new.self c.in_ok-follow.ensures.laid c.in_ok-follow.ensures.start c.in_ok-follow.ensures.reached c.in_ok-follow.ensures.cost

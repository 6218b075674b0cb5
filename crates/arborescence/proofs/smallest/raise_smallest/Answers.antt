use Rattle.arborescence.proofs.Raised.{HasRaised-more}
use Rattle.arborescence.proofs.smallest.raise_smallest.Goals as goal

pub loop-turn-preserved : goal.loop-turn-preserved
loop-turn-preserved c =
    HasRaised-more c.args.instance.now c.args.branch.now c.args.raising.now c.loop-turn.raising c.look.new.self c.loop-turn.invariant c.in_ok-size.ensures

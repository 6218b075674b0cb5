use Rattle.better_trees.proofs.Found.{better_in_whole, found_later}
use Rattle.better_trees.proofs.trees.led_on.Goals as goal

pub or_wandered-requires-clause-better : goal.or_wandered-requires-clause-better
or_wandered-requires-clause-better g c κs within =
    let I = c.args.place.now.whole.now.instance in
    let B = c.args.place.now.branch.now in
    let random = rw c.least_after-least.ensures at c.in_ok-random.ensures in
    rw c.later-better.ensures (found_later I B c.args.incumbent.now.cost _ c.in_ok-random.random c.cheaper-better.ensures (better_in_whole I B c.in_ok-part.part _ c.in_ok-random.random c.in_ok-part.ensures.part random))

use Rattle.arborescence.specs.Choosing.{IsClosing, pairs_apart}
use Rattle.arborescence.proofs.closing.di_close_all.Given as goal

abbrev pub invariant-loop-closing : goal.invariant-loop-closing
invariant-loop-closing l = IsClosing l.instance l.branch l.closing

abbrev pub decreases-loop-closing : goal.decreases-loop-closing
decreases-loop-closing l = pairs_apart l.instance.n l.closing.chosen.items

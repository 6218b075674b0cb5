use Rattle.local_search.specs.Better.{IsNoDearer}
use Rattle.local_search.proofs.improving.improve.Given as goal

abbrev pub invariant-loop-round : goal.invariant-loop-round
invariant-loop-round l = IsNoDearer l.fn.whole.instance l.fn.branch l.fn.tree l.best

use Rattle.local_search.specs.Better.{IsNoDearer}
use Rattle.local_search.proofs.wandering.wander.Given as goal

abbrev pub invariant-loop-step : goal.invariant-loop-step
invariant-loop-step l = IsNoDearer l.fn.whole.instance l.fn.branch l.fn.tree l.best

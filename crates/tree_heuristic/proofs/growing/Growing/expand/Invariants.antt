use Rattle.std.proofs.Common.{◌≤◌}
use Rattle.tree_heuristic.specs.Growing.{IsGrowing, waiting}
use Rattle.tree_heuristic.proofs.growing.Growing.expand.Given as goal

abbrev pub invariant-loop-half : goal.invariant-loop-half
invariant-loop-half l = IsGrowing l.store.network.n l.self × (waiting l.self ≤ waiting l.initial.self)

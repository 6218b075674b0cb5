use Rattle.std.proofs.Common.{◌≤◌, cond}
use Rattle.std.specs.Prelude.{sum_by}
use Rattle.st_model.specs.Network.{IsVertex}
use Rattle.tree_heuristic.specs.Growing.{IsGrowing, waiting}
use Rattle.tree_heuristic.proofs.growing.Growing.join.Given as goal

abbrev pub invariant-loop-self : goal.invariant-loop-self
invariant-loop-self l = IsGrowing l.store.network.n l.self × IsVertex l.store.network.n l.here × (waiting l.self ≤ waiting l.initial.self)

abbrev pub decreases-loop-self : goal.decreases-loop-self
decreases-loop-self l = sum_by (λ joined. cond joined 0 1) l.self.joined.items

use Rattle.std.proofs.Common.{ℕ}
use Rattle.std.specs.Prelude.{IsFalse}
use Rattle.st_model.specs.Network.{IsVertex}
use Rattle.graph_store.specs.Graph.{is_in}
use Rattle.twice_tree.proofs.near.lone_tree.Given as goal

abbrev pub invariant-loop-before : goal.invariant-loop-before
invariant-loop-before l = (v : ℕ) → IsVertex l.before v → IsFalse (is_in l.store v)

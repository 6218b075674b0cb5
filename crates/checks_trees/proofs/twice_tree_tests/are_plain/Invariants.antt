use Rattle.std.proofs.Common.{◌≡◌, ℕ}
use Rattle.std.specs.Prelude.{IsTrue}
use Rattle.st_model.specs.Network.{IsVertex, is_required, pays}
use Rattle.graph_store.specs.Graph.{is_in}
use Rattle.checks_trees.proofs.twice_tree_tests.are_plain.Given as goal

abbrev pub invariant-loop-before : goal.invariant-loop-before
invariant-loop-before l = (v : ℕ) → IsVertex l.before v → (pays l.store.network v ≡ 0) × (IsTrue (is_required l.store.network v) → IsTrue (is_in l.store v))

use Rattle.std.proofs.Common.{ℕ}
use Rattle.std.specs.Prelude.{IsTrue}
use Rattle.st_model.specs.Lists.{has}
use Rattle.st_model.specs.Network.{IsVertex, is_required}
use Rattle.tree_heuristic.proofs.certain.missing_required.Given as goal

abbrev pub invariant-loop-before : goal.invariant-loop-before
invariant-loop-before l = (v : ℕ) → IsVertex l.before v → IsTrue (is_required l.store.network v) → IsTrue (has l.set.members v)

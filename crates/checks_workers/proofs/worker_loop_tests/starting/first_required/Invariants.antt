use Rattle.std.specs.Prelude.{ℕ, IsFalse}
use Rattle.st_model.specs.Network.{IsVertex, is_required}
use Rattle.checks_workers.proofs.worker_loop_tests.starting.first_required.Given as goal

-- none of the vertices so far is required
abbrev pub invariant-loop-before : goal.invariant-loop-before
invariant-loop-before l = (v : ℕ) → IsVertex l.before v → IsFalse (is_required l.instance v)

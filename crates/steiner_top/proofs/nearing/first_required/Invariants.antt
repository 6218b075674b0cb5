use Rattle.std.proofs.Common.{ℕ}
use Rattle.std.specs.Prelude.{IsFalse}
use Rattle.st_model.specs.Network.{IsVertex, is_required}
use Rattle.steiner_top.proofs.nearing.first_required.Given as goal

abbrev pub invariant-loop-before : goal.invariant-loop-before
invariant-loop-before l = (v : ℕ) → IsVertex l.before v → IsFalse (is_required l.instance v)

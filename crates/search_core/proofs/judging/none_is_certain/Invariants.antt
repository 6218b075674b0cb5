use Rattle.std.proofs.Common.{ℕ, ◌≤◌}
use Rattle.std.specs.Prelude.{IsFalse}
use Rattle.st_model.specs.Branch.{is_certain}
use Rattle.search_core.proofs.judging.none_is_certain.Given as goal

abbrev pub invariant-loop-before : goal.invariant-loop-before
invariant-loop-before l = (v : ℕ) → 1 ≤ v → v ≤ l.before → IsFalse (is_certain l.instance l.branch v)

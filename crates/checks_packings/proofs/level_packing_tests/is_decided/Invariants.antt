use Rattle.std.proofs.Common.{ℕ, ◌≤◌}
use Rattle.std.specs.Prelude.{IsTrue}
use Rattle.st_model.specs.Branch.{is_certain}
use Rattle.level_packing.specs.Forest.{IsPresent}
use Rattle.checks_packings.proofs.level_packing_tests.is_decided.Given as goal

-- the vertices so far are certain, where they are present
abbrev pub invariant-loop-before : goal.invariant-loop-before
invariant-loop-before l = (v : ℕ) → v ≤ l.before → IsPresent l.instance l.branch v → IsTrue (is_certain l.instance l.branch v)

use Rattle.std.proofs.Common.{ℕ, ◌≤◌}
use Rattle.level_packing.specs.Forest.{IsPresent}
use Rattle.level_packing.proofs.search.first_present.Given as goal

-- none of the vertices so far is present
abbrev pub invariant-loop-before : goal.invariant-loop-before
invariant-loop-before l = (v : ℕ) → v ≤ l.before → IsPresent l.instance l.branch v → ⊥

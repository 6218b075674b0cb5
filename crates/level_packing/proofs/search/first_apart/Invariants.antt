use Rattle.std.proofs.Common.{◌≡◌, ℕ, ◌≤◌}
use Rattle.level_packing.specs.Forest.{IsPresent, groups, cluster_of}
use Rattle.level_packing.proofs.search.first_apart.Given as goal

-- the vertices so far are in the root's cluster, where they are present
abbrev pub invariant-loop-before : goal.invariant-loop-before
invariant-loop-before l = (v : ℕ) → v ≤ l.before → IsPresent l.instance l.branch v → cluster_of (groups l.forest) v ≡ cluster_of (groups l.forest) l.root

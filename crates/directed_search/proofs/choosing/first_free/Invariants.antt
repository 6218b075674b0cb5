use Rattle.std.proofs.Common.{ℕ, ◌≤◌}
use Rattle.cut_packing.specs.ProofTree.{IsSplitIn}
use Rattle.arborescence.specs.DiNetwork.{di_ground}
use Rattle.directed_search.proofs.choosing.first_free.Given as goal

abbrev pub invariant-loop-before : goal.invariant-loop-before
invariant-loop-before l = (q : ℕ) → 1 ≤ q → q ≤ l.before → ¬ IsSplitIn (di_ground l.instance) l.branch q

use Rattle.std.proofs.Common.{ℕ, ◌≤◌}
use Rattle.std.specs.Prelude.{IsTrue}
use Rattle.st_model.specs.Branch.{is_present}
use Rattle.st_model.specs.Lists.{has}
use Rattle.arborescence.proofs.pruning.first_apart.Given as goal

abbrev pub invariant-loop-before : goal.invariant-loop-before
invariant-loop-before l =
    (q : ℕ) → 1 ≤ q → q ≤ l.before → IsTrue (is_present l.branch q) → IsTrue (has l.set.members q)

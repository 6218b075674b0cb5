use Rattle.std.proofs.Common.{ℕ, ◌≤◌}
use Rattle.std.specs.Prelude.{IsTrue}
use Rattle.st_model.specs.Branch.{certain_in}
use Rattle.st_model.specs.Lists.{has}
use Rattle.arborescence.specs.DiNetwork.{di_ground}
use Rattle.arborescence.proofs.fullness.missing.Given as goal

abbrev pub invariant-loop-before : goal.invariant-loop-before
invariant-loop-before l =
    (q : ℕ) → 1 ≤ q → q ≤ l.before → IsTrue (certain_in (di_ground l.instance) l.branch q) → IsTrue (has l.set.members q)

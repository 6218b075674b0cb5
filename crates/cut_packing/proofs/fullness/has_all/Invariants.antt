use Rattle.std.proofs.Common.{ℕ, ◌≤◌}
use Rattle.std.specs.Prelude.{IsTrue}
use Rattle.st_model.specs.Lists.{has}
use Rattle.cut_packing.specs.Full.{is_open}
use Rattle.cut_packing.proofs.fullness.has_all.Given as goal

abbrev pub invariant-loop-before : goal.invariant-loop-before
invariant-loop-before l =
    (q : ℕ) → 1 ≤ q → q ≤ l.before → IsTrue (is_open l.instance l.branch l.packing q) → IsTrue (has l.reached.members q)

use Rattle.std.proofs.Common.{ℕ, ◌≤◌}
use Rattle.std.specs.Prelude.{IsTrue}
use Rattle.st_model.specs.Lists.{has}
use Rattle.st_model.specs.Network.{is_required}
use Rattle.solution_reader.proofs.judge.lacks_terminal.Given as goal

abbrev pub invariant-loop-before : goal.invariant-loop-before
invariant-loop-before l = (v : ℕ) → 1 ≤ v → v ≤ l.before → IsTrue (is_required l.instance v) → IsTrue (has l.claimed.vertices v)

use Rattle.std.proofs.Common.{◌≡◌, ◌≤◌, ℕ, true, false, slice_index_or}
use Rattle.std.specs.Prelude.{IsTrue}
use Rattle.st_model.specs.Network.{is_required}
use Rattle.st_model.proofs.judge.reaches_required.Given as goal

abbrev pub invariant-loop-before : goal.invariant-loop-before
invariant-loop-before l = (v : ℕ) → 1 ≤ v → v ≤ l.before → IsTrue (is_required l.instance v) → slice_index_or l.marks v false ≡ true

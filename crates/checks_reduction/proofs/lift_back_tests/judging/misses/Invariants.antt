use Rattle.std.proofs.Common.{ℕ, take}
use Rattle.std.specs.Prelude.{IsTrue, IsFalse}
use Rattle.st_model.specs.Arborescence.{reached}
use Rattle.st_model.specs.Lists.{has}
use Rattle.checks_reduction.proofs.lift_back_tests.judging.misses.Given as goal

abbrev pub invariant-loop-vertex : goal.invariant-loop-vertex
invariant-loop-vertex l = (v : ℕ) → IsTrue (has (take l.vertex-index l.gone) v) → IsFalse (has (reached l.tree) v)

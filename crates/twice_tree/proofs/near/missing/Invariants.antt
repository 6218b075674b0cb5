use Rattle.std.proofs.Common.{ℕ, take}
use Rattle.std.specs.Prelude.{IsTrue}
use Rattle.st_model.specs.Lists.{has}
use Rattle.twice_tree.proofs.near.missing.Given as goal

abbrev pub invariant-loop-vertex : goal.invariant-loop-vertex
invariant-loop-vertex l = (v : ℕ) → IsTrue (has (take l.vertex-index l.vertices) v) → IsTrue (has l.set.members v)

use Rattle.std.proofs.Common.{ℕ, ◌<◌, get_or}
use Rattle.std.specs.Prelude.{IsTrue}
use Rattle.st_model.specs.Lists.{has}
use Rattle.few_terminals.proofs.reach.unreached.Given as goal

abbrev pub invariant-loop-vertex : goal.invariant-loop-vertex
invariant-loop-vertex l = (k : ℕ) → k < l.vertex-index → IsTrue (has l.reached.members (get_or l.vertices k 0))

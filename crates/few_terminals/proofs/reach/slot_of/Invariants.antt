use Rattle.std.proofs.Common.{◌≡◌, ℕ, ◌<◌, get_or, false}
use Rattle.std.specs.Prelude.{◌==◌}
use Rattle.few_terminals.proofs.reach.slot_of.Given as goal

abbrev pub invariant-loop-slot : goal.invariant-loop-slot
invariant-loop-slot l = (k : ℕ) → k < l.slot → (get_or l.vertices k 0 == l.vertex) ≡ false

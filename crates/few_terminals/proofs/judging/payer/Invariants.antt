use Rattle.std.proofs.Common.{◌≡◌, ℕ, ◌≤◌, ◌<◌}
use Rattle.st_model.specs.Network.{pays}
use Rattle.few_terminals.proofs.judging.payer.Given as goal

abbrev pub invariant-loop-vertex : goal.invariant-loop-vertex
invariant-loop-vertex l = (v : ℕ) → 1 ≤ v → v < l.vertex → pays l.instance v ≡ 0

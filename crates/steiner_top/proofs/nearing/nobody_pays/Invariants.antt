use Rattle.std.proofs.Common.{◌≡◌, ℕ}
use Rattle.st_model.specs.Network.{IsVertex, pays}
use Rattle.steiner_top.proofs.nearing.nobody_pays.Given as goal

abbrev pub invariant-loop-before : goal.invariant-loop-before
invariant-loop-before l = (v : ℕ) → IsVertex l.before v → pays l.instance v ≡ 0

use Rattle.std.specs.Prelude.{ℕ, IsFalse}
use Rattle.st_model.specs.Network.{IsVertex}
use Rattle.st_model.specs.Branch.{is_certain}
use Rattle.node_work.proofs.deciding.first_certain.Given as goal

-- none of the vertices so far is certain
abbrev pub invariant-loop-before : goal.invariant-loop-before
invariant-loop-before l = (v : ℕ) → IsVertex l.before v → IsFalse (is_certain l.instance l.branch v)

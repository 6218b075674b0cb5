use Rattle.std.specs.Prelude.{◌≡◌, ℕ, IsTrue}
use Rattle.st_model.specs.Lists.{has}
use Rattle.st_model.specs.Network.{IsVertex, is_required}
use Rattle.cert_checker.proofs.wall.has_required.Given as goal

-- none of the vertices so far is required and on this side
abbrev pub invariant-loop-before : goal.invariant-loop-before
invariant-loop-before l = (v : ℕ) → IsVertex l.before v → IsTrue (is_required l.instance v) → has l.set.members v ≡ l.inside → ⊥

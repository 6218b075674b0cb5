use Rattle.std.proofs.Common.{◌≡◌, ℕ, take}
use Rattle.st_model.specs.Made.{has_pair}
use Rattle.st_model.specs.Sides.{is_kept}
use Rattle.st_model.proofs.sides.pairs_of.Given as goal

-- the pairs so far
abbrev pub invariant-loop-u : goal.invariant-loop-u
invariant-loop-u l = (u v : ℕ) → is_kept l.set.keys u v ≡ has_pair (take l.u-index l.pairs) u v

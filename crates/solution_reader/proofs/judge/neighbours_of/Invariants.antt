use Rattle.std.proofs.Common.{◌≡◌, ℕ, ◌+◌, ◌≤◌, length, take}
use Rattle.st_model.specs.Growth.{neighbours}
use Rattle.st_model.specs.Led.{heads_at}
use Rattle.solution_reader.proofs.judge.neighbours_of.Given as goal

abbrev pub invariant-loop-a : goal.invariant-loop-a
invariant-loop-a l = (length l.lists ≡ l.last + 1) × ((v : ℕ) → v ≤ l.last → heads_at l.lists v ≡ neighbours (take l.a-index l.edges) v)

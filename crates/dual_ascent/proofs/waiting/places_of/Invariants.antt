use Rattle.std.proofs.Common.{◌≡◌, ◌+◌, length}
use Rattle.dual_ascent.proofs.waiting.places_of.Given as goal

abbrev pub invariant-loop-place : goal.invariant-loop-place
invariant-loop-place l = length l.places.items ≡ l.vertices + 1

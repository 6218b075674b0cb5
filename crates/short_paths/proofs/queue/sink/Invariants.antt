use Rattle.std.proofs.Common.{◌-◌, ◌≤◌, length, IsPermutation}
use Rattle.short_paths.specs.Waiting.{IsSinking}
use Rattle.short_paths.proofs.queue.sink.Given as goal

abbrev pub invariant-loop-below : goal.invariant-loop-below
invariant-loop-below l = record {
  within : l.place ≤ length l.offers;
  order : IsSinking l.offers l.place;
  moved : IsPermutation l.initial.offers l.offers;
}

abbrev pub decreases-loop-below : goal.decreases-loop-below
decreases-loop-below l = length l.offers - l.place

use Rattle.std.proofs.Common.{◌<◌, length, IsPermutation}
use Rattle.short_paths.specs.Waiting.{IsRising}
use Rattle.short_paths.proofs.queue.rise.Given as goal

abbrev pub invariant-loop-above : goal.invariant-loop-above
invariant-loop-above l = record {
  within : l.place < length l.offers;
  order : IsRising l.offers l.place;
  moved : IsPermutation l.initial.offers l.offers;
}

abbrev pub decreases-loop-above : goal.decreases-loop-above
decreases-loop-above l = l.place

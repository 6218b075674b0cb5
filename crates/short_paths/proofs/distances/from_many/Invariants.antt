use Rattle.std.proofs.Common.{◌≡◌, ◌+◌, ◌*◌, ◌^◌, length}
use Rattle.short_paths.specs.Marks.{places_of}
use Rattle.short_paths.specs.Searching.{open_count}
use Rattle.short_paths.specs.Steps.{IsGoing}
use Rattle.short_paths.proofs.distances.from_many.Given as goal

abbrev pub invariant-loop-offer : goal.invariant-loop-offer
invariant-loop-offer l = record {
  going : IsGoing l.store.network.links l.store.network.n l.sources l.limit l.search l.search.queue;
  counted : length l.search.settled.items + open_count (places_of l.search.marks.items) ≡ l.store.network.n + 1;
}

abbrev pub decreases-loop-offer : goal.decreases-loop-offer
decreases-loop-offer l = open_count (places_of l.search.marks.items) * 2 ^ 64 + length l.search.queue

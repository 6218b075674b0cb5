use Rattle.std.proofs.Common.{◌≡◌, length}
use Rattle.special_dist.specs.Searching.{IsSearch, waiting, weight}
use Rattle.special_dist.proofs.search.Search.run.Given as goal

abbrev pub invariant-loop-place : goal.invariant-loop-place
invariant-loop-place l = record {
  search : IsSearch l.store.network l.quest l.self (waiting l.self);
  places : length l.self.places.items ≡ length l.fn.self.places.items;
}

abbrev pub decreases-loop-place : goal.decreases-loop-place
decreases-loop-place l = weight l.store.network.n l.self

use Rattle.std.proofs.Common.{◌≡◌, length, take}
use Rattle.special_dist.specs.Steps.{HasGone}
use Rattle.special_dist.proofs.search.Search.spread.Given as goal

abbrev pub invariant-loop-half : goal.invariant-loop-half
invariant-loop-half l = record {
  gone : HasGone l.store.network l.quest l.place l.visit (take l.half-index l.half-items) l.initial.self l.self;
  places : length l.self.places.items ≡ length l.initial.self.places.items;
}

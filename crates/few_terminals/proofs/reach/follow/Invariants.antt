use Rattle.std.proofs.Common.{◌≡◌, take}
use Rattle.few_terminals.specs.Reach.{HasFollowed}
use Rattle.few_terminals.proofs.reach.follow.Given as goal

abbrev pub invariant-loop-half : goal.invariant-loop-half
invariant-loop-half l = record {
  followed : HasFollowed l.store.network l.initial.reached.members (take l.half-index l.half-items) l.reached.members;
  count : l.reached.count ≡ l.initial.reached.count;
}

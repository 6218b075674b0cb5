use Rattle.std.proofs.Common.{◌≡◌, take}
use Rattle.reductions.specs.Working.{HasTried, IsWork}
use Rattle.reductions.proofs.work.Work.try_links.Given as goal

abbrev pub invariant-loop-link : goal.invariant-loop-link
invariant-loop-link l = record {
  work : IsWork l.self l.self.queue.items;
  first : l.self.reduced.first ≡ l.initial.self.reduced.first;
  finder : l.finder ≡ l.initial.finder;
  tried : HasTried l.initial.self l.self l.any l.most (take l.link-index l.links);
}

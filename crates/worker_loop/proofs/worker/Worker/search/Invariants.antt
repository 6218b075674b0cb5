use Rattle.std.proofs.Common.{◌≡◌}
use Rattle.std.specs.Option.{option_to_list}
use Rattle.std.specs.Prelude.{All}
use Rattle.worker_loop.specs.Progress.{HasWorked, SameWorker, moment}
use Rattle.worker_loop.specs.Run.{IsAllowed}
use Rattle.worker_loop.proofs.worker.Worker.search.Given as goal

abbrev pub invariant-loop : goal.invariant-loop
invariant-loop g l =
    (goal.iterator-loop g).can_next l.iterator' × (goal.iterator-loop g).is_finite l.iterator' × SameWorker l.fn.self l.self × (l.self.ledger.tally.refused ≡ 0)
    × HasWorked g.Q.Aim.instance g.Q.Aim.branch g.Q.Aim.start l.fn.self.seat l.fn.self.workers l.fn.self.pass (moment l.self l.work) (option_to_list l.hand)
    × All (IsAllowed l.fn.self.links) l.work.done.items

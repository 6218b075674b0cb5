use Rattle.std.proofs.Common.{◌≡◌, []}
use Rattle.node_pool.specs.Pool.{Moves, SamePass}
use Rattle.worker_loop.specs.Progress.{HasLooked}
use Rattle.worker_loop.proofs.worker.Worker.look.Given as goal

abbrev pub invariant-loop : goal.invariant-loop
invariant-loop g l =
    (goal.iterator-loop g).can_next l.iterator' × (goal.iterator-loop g).is_finite l.iterator' × (l.self.seat ≡ l.fn.self.seat) × (l.self.workers ≡ l.fn.self.workers) × (l.self.next ≡ l.fn.self.next)
    × SamePass l.fn.self.pass l.self.pass × Moves l.fn.self.pass l.self.pass [] [] × (l.self.best ≡ l.fn.self.best) × HasLooked l.fn.self.ledger l.self.ledger
    × (l.self.links ≡ l.fn.self.links)

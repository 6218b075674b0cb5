use Rattle.std.proofs.Common.{false, Some, [], ◌∷◌, ◌++◌}
use Rattle.search_core.proofs.Changed.{set-changed}
use Rattle.search_core.proofs.workers.split.Goals as goal

pub returns-clause-workers : goal.returns-clause-workers
returns-clause-workers c =
    rw c.in_ok-push.ensures.ok (set-changed c.args.workers.now.items c.args.w c.index_mut-worker.result.now (λ x. record x { hand = Some c.args.inside.node.id; up = false; done = x.done ++ c.args.done ∷ [] }) c.index_mut-worker.ensures.value)

use Rattle.std.proofs.Common.{◌+◌, None, [], ◌∷◌, ◌++◌}
use Rattle.search_core.proofs.Changed.{set-changed}
use Rattle.search_core.proofs.workers.close.Goals as goal

pub returns-clause-ok : goal.returns-clause-ok
returns-clause-ok c =
    rw c.in_ok-push.ensures.ok (set-changed c.args.workers.now.items c.args.w c.index_mut-worker.result.now (λ x. record x { hand = None; closes = x.closes + 1; done = x.done ++ c.args.done ∷ [] }) c.index_mut-worker.ensures.value)

use Rattle.std.proofs.Common.{◌-◌}
use Rattle.search_core.proofs.Changed.{set-changed}
use Rattle.search_core.proofs.workers.come_down.Goals as goal

pub returns : goal.returns
returns c = rw c.saturating_sub-worker.ensures (set-changed c.args.workers.now.items c.args.w c.index_mut-worker.result.now (λ x. record x { closes = x.closes - 1 }) c.index_mut-worker.ensures.value)

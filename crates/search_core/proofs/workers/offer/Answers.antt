use Rattle.std.proofs.Common.{min}
use Rattle.search_core.proofs.Changed.{set-changed}
use Rattle.search_core.proofs.workers.offer.Goals as goal

pub returns : goal.returns
returns c = rw c.min-worker.ensures (set-changed c.args.workers.now.items c.args.w c.index_mut-worker.result.now (λ x. record x { seen = c.args.least; offered = min x.offered c.args.value }) c.index_mut-worker.ensures.value)

use Rattle.std.proofs.Common.{true}
use Rattle.search_core.proofs.Changed.{set-changed}
use Rattle.search_core.proofs.workers.await_split.Goals as goal

pub returns : goal.returns
returns c = set-changed c.args.workers.now.items c.args.w c.index_mut.result.now (λ x. record x { up = true }) c.index_mut.ensures.value

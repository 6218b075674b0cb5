use Rattle.search_core.proofs.Changed.{set-changed}
use Rattle.search_core.proofs.workers.hold.Goals as goal

pub returns : goal.returns
returns c = set-changed c.args.workers.now.items c.args.w c.index_mut.result.now (λ x. record x { hand = c.args.id }) c.index_mut.ensures.value

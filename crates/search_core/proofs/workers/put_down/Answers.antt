use Rattle.search_core.specs.Effects.{put_down}
use Rattle.search_core.proofs.Changed.{set-changed}
use Rattle.search_core.proofs.workers.put_down.Goals as goal

pub returns : goal.returns
returns c = rw c.without-worker.ensures (set-changed c.args.workers.now.items c.args.w c.index_mut-worker.result.now (λ x. record x { hand = put_down x.hand c.args.id }) c.index_mut-worker.ensures.value)

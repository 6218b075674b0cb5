use Rattle.std.proofs.Common.{true}
use Rattle.search_core.specs.declared.done.End.TheVariants.{ClaimRefused}
use Rattle.search_core.proofs.Changed.{set-changed}
use Rattle.search_core.proofs.workers.refuse.Goals as goal

pub returns : goal.returns
returns c = set-changed c.args.workers.now.items c.args.w c.index_mut-worker.result.now (λ x. record x { refused = true; end = ClaimRefused }) c.index_mut-worker.ensures.value

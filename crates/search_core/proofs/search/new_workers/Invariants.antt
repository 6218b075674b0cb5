use Rattle.std.proofs.Common.{◌≡◌, replicate}
use Rattle.search_core.specs.State.{new_worker}
use Rattle.search_core.proofs.search.new_workers.Given as goal

abbrev pub invariant-loop : goal.invariant-loop
invariant-loop l = l.workers.items ≡ replicate l.counter (new_worker l.start)

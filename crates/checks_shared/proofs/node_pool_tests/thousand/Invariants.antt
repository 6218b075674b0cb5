use Rattle.std.proofs.Common.{◌≡◌, length}
use Rattle.node_pool.specs.Pool.{AreAllPasses}
use Rattle.checks_shared.proofs.node_pool_tests.thousand.Given as goal

abbrev pub invariant-loop-id : goal.invariant-loop-id
invariant-loop-id g l = (length l.passes.items ≡ 2) × AreAllPasses l.passes.items

abbrev pub invariant-loop : goal.invariant-loop
invariant-loop g l = (length l.passes.items ≡ 2) × AreAllPasses l.passes.items

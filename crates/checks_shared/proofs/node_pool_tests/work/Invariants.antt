use Rattle.node_pool.specs.Pool.{SamePass}
use Rattle.checks_shared.proofs.node_pool_tests.work.Given as goal

abbrev pub invariant-loop-k : goal.invariant-loop-k
invariant-loop-k g l = SamePass l.fn.pass l.pass

use Rattle.std.proofs.Common.{◌≡◌, length}
use Rattle.node_pool.specs.Sides.{looked}
use Rattle.node_pool.proofs.pass.steal.Given as goal

abbrev pub invariant-loop-k : goal.invariant-loop-k
invariant-loop-k g l = (l.ends.items ≡ looked l.k l.fn.ends.items) × (l.k-end ≡ length l.fn.ends.items) × (length l.ends.items ≡ length l.fn.ends.items)

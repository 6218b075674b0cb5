use Rattle.std.proofs.Common.{arith}
use Rattle.twice_tree.proofs.Ended.{none_present}
use Rattle.twice_tree.proofs.near.lone_tree.Goals as goal

pub returns-clause-none : goal.returns-clause-none
returns-clause-none c = none_present c.args.store.now (λ v vertex. c.loop-before.invariant v (vertex.0, (let high = vertex.1 in let all = c.loop-before-test.false in let count = c.vertices-before-end.ensures.count in omega (arith, high, all, count))))

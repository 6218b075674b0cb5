use Rattle.std.proofs.Common.{arith}
use Rattle.std.proofs.lemmas.Result.{IfOk-weaker}
use Rattle.steiner_top.proofs.Starting.{cheap_start, some_first}
use Rattle.steiner_top.proofs.start.start_tree.Goals as goal

pub unreachable-requires : goal.unreachable-requires
unreachable-requires c = some_first c.args.whole.now.instance c.args.whole.now.store c.args.branch.now c.in_ok-tree.field-0 c.vertices.ensures.instance c.args.whole.now.whole c.requires.some c.in_ok-tree.ensures.none c.in-None.is

pub returns-clause-cheap : goal.returns-clause-cheap
returns-clause-cheap c =
    let low = rw c.in-Some.is at c.in_ok-tree.ensures.lone in
    let no_dearer = c.in_ok-pruned-in-Some.ensures.cost in
    IfOk-weaker c.improve.result _ _
    (λ new less. cheap_start c.args.whole.now.instance c.args.whole.now.store c.args.branch.now c.in-Some.tree new c.vertices.ensures.instance c.requires.branch c.args.whole.now.whole
    c.lone_starts_miss_the_rest.ensures c.requires.some low (omega arith)) c.improve.ensures.cost

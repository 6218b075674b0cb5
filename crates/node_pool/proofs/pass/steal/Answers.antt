use Rattle.std.proofs.Common.{rules, ◌≡◌, ◌<◌, ◌∙◌, ap, map, length, false}
use Rattle.std.specs.Prelude.{is_some}
use Rattle.node_pool.specs.Ends.{queue_of}
use Rattle.node_pool.specs.Pool.{puts, takes}
use Rattle.node_pool.specs.Sides.{looked}
use Rattle.node_pool.proofs.Passes.{lost}
use Rattle.node_pool.proofs.Looking.{looked_all, looked_puts, looked_queues, looked_takes, looks_on, taken_after}
use Rattle.node_pool.proofs.pass.steal.Goals as goal

pub loop-k-preserved : goal.loop-k-preserved
loop-k-preserved g c =
    let i = c.loop-k.invariant in
    let no : is_some c.steal_at-node.result ≡ false = search rules in
    let lt : c.loop-k.k < length c.args.ends.now.items = search rules in
    let n = lost c.steal_at-node.result _ no c.steal_at-node.ensures.none in
    let more = looks_on c.loop-k.k c.args.ends.now.items c.loop-k.ends.items c.steal_at-node.new.ends.items i.0 lt n in
    (more.0, i.1, more.1)

pub returns-then-is_some-clause-queues : goal.returns-then-is_some-clause-queues
returns-then-is_some-clause-queues g c = c.steal_at-node.ensures.queues ∙ (ap (map queue_of) c.loop-k.invariant.0 ∙ looked_queues c.loop-k.k c.args.ends.now.items)

pub returns-then-is_some-clause-some : goal.returns-then-is_some-clause-some
returns-then-is_some-clause-some g c = taken_after c.steal_at-node.result c.args.ends.now.items c.loop-k.ends.items c.steal_at-node.new.ends.items
    (λ h. ap (takes h) c.loop-k.invariant.0 ∙ looked_takes h c.loop-k.k c.args.ends.now.items) c.steal_at-node.ensures.some

pub returns-then-is_some-clause-puts : goal.returns-then-is_some-clause-puts
returns-then-is_some-clause-puts g c h = c.steal_at-node.ensures.puts h ∙ (ap (puts h) c.loop-k.invariant.0 ∙ looked_puts h c.loop-k.k c.args.ends.now.items)

pub returns-clause-queues : goal.returns-clause-queues
returns-clause-queues g c = ap (map queue_of) c.loop-k.invariant.0 ∙ looked_queues c.loop-k.k c.args.ends.now.items

pub returns-clause-none : goal.returns-clause-none
returns-clause-none g c =
    let all : c.loop-k.k ≡ length c.args.ends.now.items = search rules in
    c.loop-k.invariant.0 ∙ ap (λ k. looked k c.args.ends.now.items) all ∙ looked_all c.args.ends.now.items

pub returns-clause-puts : goal.returns-clause-puts
returns-clause-puts g c h = ap (puts h) c.loop-k.invariant.0 ∙ looked_puts h c.loop-k.k c.args.ends.now.items

use Rattle.std.proofs.Common.{sym, subst, arith}
use Rattle.std.specs.Prelude.{IsTrue}
use Rattle.std.proofs.lemmas.Option.{slice_get_within, get_or_from_slice_get}
use Rattle.st_model.specs.Lists.{has}
use Rattle.st_model.proofs.Marked.{has_at}
use Rattle.graph_store.proofs.PutLinks.{in_range}
use Rattle.tree_heuristic.proofs.Settled.{under_way_more, under_way_end}
use Rattle.tree_heuristic.proofs.spread.Spread.over.Goals as goal

pub reach-requires-clause-tail : goal.reach-requires-clause-tail
reach-requires-clause-tail c =
    let members = c.loop-tail.spread.reached.members in
    let at = sym c.in-Some.ensures.member in
    subst (λ v. IsTrue (has members v)) (get_or_from_slice_get members c.loop-tail.next c.in-Some.tail 0 at) (has_at members c.loop-tail.next 0 (slice_get_within members c.loop-tail.next c.in-Some.tail at))

pub reach-requires-clause-vertex : goal.reach-requires-clause-vertex
reach-requires-clause-vertex c =
    let members = c.loop-tail.spread.reached.members in
    let at = sym c.in-Some.ensures.member in
    let there = subst (λ v. IsTrue (has members v)) (get_or_from_slice_get members c.loop-tail.next c.in-Some.tail 0 at) (has_at members c.loop-tail.next 0 (slice_get_within members c.loop-tail.next c.in-Some.tail at)) in
    in_range c.args.store.now c.in-Some.tail c.vertices.ensures.graph (c.loop-tail.invariant.spread.only_joining c.in-Some.tail there).present

pub loop-tail-smaller : goal.loop-tail-smaller
loop-tail-smaller c =
    let within = slice_get_within c.loop-tail.spread.reached.members c.loop-tail.next c.in-Some.tail (sym c.in-Some.ensures.member) in
    let few = c.in-Some.ensures.few in
    let count = c.loop-tail.invariant.spread.count in
    omega (arith, within, few, count)

pub loop-tail-preserved : goal.loop-tail-preserved
loop-tail-preserved c = under_way_more c.args.store.now c.args.branch.now.outside c.args.start c.loop-tail.spread c.reach.new.self c.loop-tail.next c.in-Some.tail c.loop-tail.invariant (sym c.in-Some.ensures.member) c.in_ok-reach.ensures

pub returns-clause-closed : goal.returns-clause-closed
returns-clause-closed c = under_way_end c.args.store.now c.args.branch.now.outside c.args.start c.loop-tail.spread c.loop-tail.next c.loop-tail.invariant (sym (rw c.in_default.is at c.member.ensures.member))

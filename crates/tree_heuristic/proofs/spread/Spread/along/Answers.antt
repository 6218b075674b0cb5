use Rattle.std.proofs.Common.{sym, subst, arith}
use Rattle.std.specs.Prelude.{IsTrue}
use Rattle.std.proofs.lemmas.Option.{slice_get_within, get_or_from_slice_get}
use Rattle.st_model.specs.Lists.{has}
use Rattle.st_model.proofs.Marked.{has_at}
use Rattle.graph_store.proofs.PutLinks.{in_range}
use Rattle.tree_heuristic.proofs.spread.Spread.along.Goals as goal

pub reach_along-requires-clause-tail : goal.reach_along-requires-clause-tail
reach_along-requires-clause-tail c =
    let members = c.loop-tail.spread.reached.members in
    let at = sym c.in-Some.ensures.member in
    subst (λ v. IsTrue (has members v)) (get_or_from_slice_get members c.loop-tail.next c.in-Some.tail 0 at) (has_at members c.loop-tail.next 0 (slice_get_within members c.loop-tail.next c.in-Some.tail at))

pub reach_along-requires-clause-vertex : goal.reach_along-requires-clause-vertex
reach_along-requires-clause-vertex c =
    let members = c.loop-tail.spread.reached.members in
    let at = sym c.in-Some.ensures.member in
    let there = subst (λ v. IsTrue (has members v)) (get_or_from_slice_get members c.loop-tail.next c.in-Some.tail 0 at) (has_at members c.loop-tail.next 0 (slice_get_within members c.loop-tail.next c.in-Some.tail at)) in
    in_range c.args.store.now c.in-Some.tail c.vertices.ensures.graph (c.loop-tail.invariant.0.only_joining c.in-Some.tail there).present

pub loop-tail-smaller : goal.loop-tail-smaller
loop-tail-smaller c =
    let within = slice_get_within c.loop-tail.spread.reached.members c.loop-tail.next c.in-Some.tail (sym c.in-Some.ensures.member) in
    let few = c.in-Some.ensures.few in
    let count = c.loop-tail.invariant.0.count in
    omega (arith, within, few, count)

pub overflow_add-next : goal.overflow_add-next
overflow_add-next c =
    let within = slice_get_within c.loop-tail.spread.reached.members c.loop-tail.next c.in-Some.tail (sym c.in-Some.ensures.member) in
    let few = c.in-Some.ensures.few in
    let count = c.loop-tail.invariant.0.count in
    let small = c.vertices.ensures.graph.instance.few_vertices in
    omega (arith, within, few, count, small)

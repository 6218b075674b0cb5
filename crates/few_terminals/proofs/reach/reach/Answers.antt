use Rattle.std.proofs.Common.{sym, ◌∙◌, arith}
use Rattle.std.proofs.lemmas.Option.{slice_get_within}
use Rattle.few_terminals.proofs.Reaching.{reached_vertex, reaching_more, reaching_end}
use Rattle.few_terminals.proofs.reach.reach.Goals as goal

pub follow-requires-clause-vertex : goal.follow-requires-clause-vertex
follow-requires-clause-vertex c = reached_vertex c.args.store.now.network c.loop-tail.reached.members c.loop-tail.next c.in-Some.tail c.loop-tail.invariant.reaching.vertices (sym c.in-Some.ensures.member)

pub loop-tail-smaller : goal.loop-tail-smaller
loop-tail-smaller c =
    let within = slice_get_within c.loop-tail.reached.members c.loop-tail.next c.in-Some.tail (sym c.in-Some.ensures.member) in
    let few = c.in-Some.ensures.few in
    let count = c.loop-tail.invariant.count in
    omega (arith, within, few, count)

pub loop-tail-preserved : goal.loop-tail-preserved
loop-tail-preserved c =
    let followed = c.in_ok-follow.ensures.followed in
    record {
      reaching = reaching_more c.args.store.now.network c.args.root c.loop-tail.next c.in-Some.tail c.loop-tail.reached.members c.follow.new.reached.members followed.0 (sym c.in-Some.ensures.member) followed.1 followed.2 c.loop-tail.invariant.reaching;
      count = c.in_ok-follow.ensures.count ∙ c.loop-tail.invariant.count;
    }

pub returns : goal.returns
returns c = reaching_end c.args.store.now.network c.args.root c.loop-tail.next c.loop-tail.reached.members (sym (rw c.in_default.is at c.member.ensures.member)) c.loop-tail.invariant.reaching

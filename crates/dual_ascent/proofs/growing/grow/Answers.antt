use Rattle.std.proofs.Common.{◌∙◌, sym, subst, arith}
use Rattle.std.proofs.lemmas.Option.{slice_get_within, get_or_from_slice_get}
use Rattle.st_model.specs.Network.{IsVertex}
use Rattle.st_model.proofs.Walked.{slice_get-None}
use Rattle.dual_ascent.specs.Turns.{stops}
use Rattle.dual_ascent.proofs.Reaching.{alone, apart_more, growing_from, growing_met, growing_more, growing_done, in_range_more}
use Rattle.dual_ascent.proofs.growing.grow.Goals as goal

pub loop-member-init : goal.loop-member-init
loop-member-init c =
    let D = c.args.arcs.now in
    let q = c.args.vertex in
    let seeds = alone D q c.insert.new.self.members c.requires.vertex (rw c.clear.ensures.members at c.in_ok-insert.ensures.members) in
    record {
      count = c.in_ok-insert.ensures.count ∙ c.clear.ensures.count ∙ c.requires.count;
      in_range = seeds.in_range;
      apart = λ k before within. absurd (omega (arith, before));
      growing = growing_from D q c.insert.new.self.members seeds;
    }

pub arcs_into-requires : goal.arcs_into-requires
arcs_into-requires c =
    let members = c.loop-member.set.members in
    let found = sym c.in-Some.ensures.member in
    let below = slice_get_within members c.loop-member.next c.in-Some.member found in
    subst (IsVertex c.args.arcs.now.n) (get_or_from_slice_get members c.loop-member.next c.in-Some.member 0 found) (c.loop-member.invariant.in_range c.loop-member.next 0 below)

pub add_tails-requires : goal.add_tails-requires
add_tails-requires c = rw c.arcs_into.ensures.all (λ k d below. omega (arith, ((c.arcs_into.ensures.digraph.arcs c.in-Some.member).tails k d below).0.1, c.loop-member.invariant.count))

pub overflow_add-next : goal.overflow_add-next
overflow_add-next c =
    let below = slice_get_within c.loop-member.set.members c.loop-member.next c.in-Some.member (sym c.in-Some.ensures.member) in
    omega (arith, below, c.in-Some.ensures.few, c.loop-member.invariant.count, c.arcs_into.ensures.digraph.few_vertices)

pub loop-member-smaller : goal.loop-member-smaller
loop-member-smaller c =
    let below = slice_get_within c.loop-member.set.members c.loop-member.next c.in-Some.member (sym c.in-Some.ensures.member) in
    omega (arith, below, c.in-Some.ensures.few, c.loop-member.invariant.count)

pub loop-member-preserved : goal.loop-member-preserved
loop-member-preserved c =
    let D = c.args.arcs.now in
    let q = c.args.vertex in
    let members = c.loop-member.set.members in
    let new = c.add_tails.new.set.members in
    let at = sym c.in-Some.ensures.member in
    let extends = rw c.arcs_into.ensures.all at c.in_ok-add_tails.ensures.extends in
    record {
      count = c.add_tails.ensures.count ∙ c.loop-member.invariant.count;
      in_range = in_range_more D c.in-Some.member members new c.arcs_into.ensures.digraph extends c.loop-member.invariant.in_range;
      apart = apart_more (stops c.args.known.now q) c.loop-member.next c.in-Some.member members new _ at (sym c.stops.ensures ∙ c.if-stops.false) extends c.loop-member.invariant.apart;
      growing = growing_more D q c.loop-member.next c.in-Some.member members new c.arcs_into.ensures.digraph at extends c.loop-member.invariant.growing;
    }

pub returns-then-stops-clause-gathered : goal.returns-then-stops-clause-gathered
returns-then-stops-clause-gathered c = growing_met c.args.arcs.now c.args.vertex c.loop-member.next c.in-Some.member (stops c.args.known.now c.args.vertex) c.loop-member.set.members (sym c.in-Some.ensures.member) (sym c.stops.ensures ∙ c.if-stops.true) c.loop-member.invariant.growing

pub returns-clause-gathered : goal.returns-clause-gathered
returns-clause-gathered c = growing_done c.args.arcs.now c.args.vertex c.loop-member.next (stops c.args.known.now c.args.vertex) c.loop-member.set.members (slice_get-None _ _ (sym c.in_default.ensures.member)) c.loop-member.invariant.apart c.loop-member.invariant.growing

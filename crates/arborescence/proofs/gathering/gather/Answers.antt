use Rattle.std.proofs.Common.{sym, ◌∙◌, arith}
use Rattle.std.proofs.lemmas.Option.{slice_get_within, get_or_from_slice_get}
use Rattle.st_model.proofs.Walked.{IsWalked-start, IsWalked-step, AreLed-done, slice_get-None}
use Rattle.arborescence.specs.Gathering.{used_into}
use Rattle.arborescence.proofs.Used.{into-used}
use Rattle.arborescence.proofs.gathering.gather.Goals as goal

pub loop-member-init : goal.loop-member-init
loop-member-init c = record {
  walked = rw (c.in_ok-insert.ensures.members, c.clear.ensures.members) (IsWalked-start (used_into c.args.arcs.now) c.args.vertex);
  count = c.in_ok-insert.ensures.count ∙ c.clear.ensures.count ∙ c.requires.count;
}

pub at-requires : goal.at-requires
at-requires c =
    let members = c.loop-member.set.members in
    let found = sym c.in-Some.ensures.member in
    let below = slice_get_within members c.loop-member.next c.in-Some.member found in
    let is = get_or_from_slice_get members c.loop-member.next c.in-Some.member 0 found in
    omega (arith, is, c.in-Some.ensures.in_range c.loop-member.next 0 below, c.loop-member.invariant.count)

pub add_tails-requires : goal.add_tails-requires
add_tails-requires c = rw (c.at.ensures, c.loop-member.invariant.count) (c.requires.tails c.in-Some.member)

pub overflow_add-next : goal.overflow_add-next
overflow_add-next c =
    let below = slice_get_within c.loop-member.set.members c.loop-member.next c.in-Some.member (sym c.in-Some.ensures.member) in
    omega (arith, below, c.in-Some.ensures.few, c.loop-member.invariant.count, c.count.ensures, c.count.type_inv)

pub loop-member-smaller : goal.loop-member-smaller
loop-member-smaller c =
    let below = slice_get_within c.loop-member.set.members c.loop-member.next c.in-Some.member (sym c.in-Some.ensures.member) in
    omega (arith, below, c.in-Some.ensures.few, c.loop-member.invariant.count)

pub loop-member-preserved : goal.loop-member-preserved
loop-member-preserved c = record {
  walked = IsWalked-step (used_into c.args.arcs.now) c.args.vertex c.loop-member.next c.in-Some.member c.loop-member.set.members _ (sym c.in-Some.ensures.member) (rw (into-used c.args.arcs.now c.in-Some.member) (rw c.at.ensures at c.in_ok-add_tails.ensures.extends)) c.loop-member.invariant.walked;
  count = c.add_tails.ensures.count ∙ c.loop-member.invariant.count;
}

pub returns-clause-gathered : goal.returns-clause-gathered
returns-clause-gathered c =
    AreLed-done (used_into c.args.arcs.now) c.args.vertex c.loop-member.next c.loop-member.set.members (slice_get-None _ _ (sym c.in_default.ensures.member)) c.loop-member.invariant.walked

use Rattle.std.proofs.Common.{refl, sym, ◌∙◌, arith}
use Rattle.std.proofs.lemmas.Option.{slice_get_within, get_or_from_slice_get}
use Rattle.st_model.proofs.Marked.{has_at}
use Rattle.st_model.proofs.Walked.{IsWalked-start, IsWalked-step, AreLed-done, slice_get-None}
use Rattle.arborescence.proofs.spreading.Spread.over.Goals as goal

pub loop-tail-init : goal.loop-tail-init
loop-tail-init c = record {
  walked = rw c.in_ok-spread.ensures.members (IsWalked-start c.args.heads.now c.args.root);
  spread = record {
    grows = rw c.in_ok-spread.ensures.arcs tt;
    same = λ v. rw (c.in_ok-spread.ensures.arcs, c.in_ok-spread.ensures.members) refl;
    count = c.in_ok-spread.ensures.count ∙ c.count.ensures;
  };
}

pub reach-requires-clause-tail : goal.reach-requires-clause-tail
reach-requires-clause-tail c =
    let members = c.loop-tail.spread.reached.members in
    let found = sym c.in-Some.ensures.member in
    let below = slice_get_within members c.loop-tail.next c.in-Some.tail found in
    let is = get_or_from_slice_get members c.loop-tail.next c.in-Some.tail 0 found in
    omega (arith, is, c.in-Some.ensures.in_range c.loop-tail.next 0 below, c.loop-tail.invariant.spread.count)

pub reach-requires-clause-reached : goal.reach-requires-clause-reached
reach-requires-clause-reached c =
    let members = c.loop-tail.spread.reached.members in
    let found = sym c.in-Some.ensures.member in
    rw (← get_or_from_slice_get members c.loop-tail.next c.in-Some.tail 0 found) (has_at members c.loop-tail.next 0 (slice_get_within members c.loop-tail.next c.in-Some.tail found))

pub overflow_add-next : goal.overflow_add-next
overflow_add-next c =
    let below = slice_get_within c.loop-tail.spread.reached.members c.loop-tail.next c.in-Some.tail (sym c.in-Some.ensures.member) in
    omega (arith, below, c.in-Some.ensures.few, c.loop-tail.invariant.spread.count, c.count.ensures, c.count.type_inv)

pub loop-tail-smaller : goal.loop-tail-smaller
loop-tail-smaller c =
    let below = slice_get_within c.loop-tail.spread.reached.members c.loop-tail.next c.in-Some.tail (sym c.in-Some.ensures.member) in
    omega (arith, below, c.in-Some.ensures.few, c.loop-tail.invariant.spread.count)

pub loop-tail-preserved : goal.loop-tail-preserved
loop-tail-preserved c = record {
  walked = IsWalked-step c.args.heads.now c.args.root c.loop-tail.next c.in-Some.tail c.loop-tail.spread.reached.members _ (sym c.in-Some.ensures.member) c.in_ok-reach.ensures.extends c.loop-tail.invariant.walked;
  spread = c.in_ok-reach.ensures.spread;
}

pub returns-clause-led : goal.returns-clause-led
returns-clause-led c =
    AreLed-done c.args.heads.now c.args.root c.loop-tail.next c.loop-tail.spread.reached.members (slice_get-None _ _ (sym c.in_default.ensures.member)) c.loop-tail.invariant.walked

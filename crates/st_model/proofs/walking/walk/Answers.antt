use Rattle.std.proofs.Common.{sym, ◌∙◌, arith}
use Rattle.std.proofs.lemmas.Option.{slice_get_within, get_or_from_slice_get}
use Rattle.st_model.proofs.Walked.{IsWalked-start, IsWalked-step, AreLed-done, slice_get-None}
use Rattle.st_model.proofs.walking.walk.Goals as goal

pub loop-tail-init : goal.loop-tail-init
loop-tail-init c = record {
  walked = rw (c.in_ok-insert.ensures.members, c.in_ok-reached.ensures.empty) (IsWalked-start c.args.heads.now c.args.root);
  count = c.in_ok-insert.ensures.count ∙ c.in_ok-reached.ensures.count ∙ c.count.ensures;
}

pub at-requires : goal.at-requires
at-requires c =
    let members = c.loop-tail.reached.members in
    let found = sym c.in-Some.ensures.member in
    let below = slice_get_within members c.loop-tail.next c.in-Some.tail found in
    let is = get_or_from_slice_get members c.loop-tail.next c.in-Some.tail 0 found in
    omega (arith, is, c.in-Some.ensures.in_range c.loop-tail.next 0 below, c.loop-tail.invariant.count)

pub overflow_add-next : goal.overflow_add-next
overflow_add-next c =
    let below = slice_get_within c.loop-tail.reached.members c.loop-tail.next c.in-Some.tail (sym c.in-Some.ensures.member) in
    omega (arith, below, c.in-Some.ensures.few, c.loop-tail.invariant.count, c.count.ensures, c.count.type_inv)

pub loop-tail-smaller : goal.loop-tail-smaller
loop-tail-smaller c =
    let below = slice_get_within c.loop-tail.reached.members c.loop-tail.next c.in-Some.tail (sym c.in-Some.ensures.member) in
    omega (arith, below, c.in-Some.ensures.few, c.loop-tail.invariant.count)

pub loop-tail-preserved : goal.loop-tail-preserved
loop-tail-preserved c = record {
  walked = IsWalked-step c.args.heads.now c.args.root c.loop-tail.next c.in-Some.tail c.loop-tail.reached.members _ (sym c.in-Some.ensures.member) (rw c.at.ensures at c.in_ok-extend.ensures.extends) c.loop-tail.invariant.walked;
  count = c.extend.ensures.count ∙ c.loop-tail.invariant.count;
}

pub returns : goal.returns
returns c =
    AreLed-done c.args.heads.now c.args.root c.loop-tail.next c.loop-tail.reached.members (slice_get-None _ _ (sym c.in_default.ensures.member)) c.loop-tail.invariant.walked

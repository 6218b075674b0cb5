use Rattle.std.proofs.Common.{refl, arith, sym, ap, ◌∙◌, ◌≡◌, ℕ, Bool, true, false, is_some, cond, ◌≤◌, length, eq-eqb}
use Rattle.std.specs.Prelude.{unwrap_or}
use Rattle.std.proofs.lemmas.Bool.{false≢true}
use Rattle.st_model.specs.Network.{is_required, Network}
use Rattle.st_model.specs.Arborescence.{arc_cost}
use Rattle.lift_back.specs.Keeping.{state_of}
use Rattle.lift_back.proofs.Walking.{detour_goes, stopped, step_on, ended}
use Rattle.lift_back.proofs.rest.Rest.is_detour.Goals as goal

pub returns-in-None : goal.returns-in-None
returns-in-None c =
    let I : Network = (state_of c.args.self.now).instance in
    let limit_is : c.in-Some.limit ≡ arc_cost I (c.args.a, c.args.b) = ap (λ o. unwrap_or o 0) (sym c.in-Some.is ∙ c.link_cost.ensures) in (
      (λ h. absurd (false≢true h)),
      (λ detour. absurd (stopped I c.args.a c.args.b c.in-Some.limit c.loop-next.paid c.loop-next.at c.loop-next.next-index _ c.args.inner.now c.loop-next-test.true refl c.loop-next.invariant.goes c.in-None.ensures.none (detour_goes I c.args.a c.args.b c.in-Some.limit c.args.inner.now limit_is detour))),
    )

pub loop-next-preserved : goal.loop-next-preserved
loop-next-preserved c =
    let I : Network = (state_of c.args.self.now).instance in
    record {
      within = within c.in-Some-paid_along.more c.in-Some.limit _ (is_required I _) c.in-Some-paid_along.ensures.some.0 c.in-Some-paid_along.ensures.some.1.within;
      goes = step_on I c.args.a c.args.b c.in-Some.limit c.loop-next.paid c.loop-next.at c.in-Some-paid_along.more c.loop-next.next-index _ c.args.inner.now c.loop-next-test.true refl c.loop-next.invariant.goes c.in-Some-paid_along.ensures.some.0 c.in-Some-paid_along.ensures.some.1;
    }
  where
    within : (more limit sum : ℕ) (b : Bool) → more ≡ cond b 0 sum → sum ≤ limit → more ≤ limit
    within more limit sum true is fits = omega arith
    within more limit sum false is fits = omega arith

pub returns : goal.returns
returns c =
    let I : Network = (state_of c.args.self.now).instance in
    let limit_is : c.in-Some.limit ≡ arc_cost I (c.args.a, c.args.b) = ap (λ o. unwrap_or o 0) (sym c.in-Some.is ∙ c.link_cost.ensures) in
    rw c.is_some.ensures (ended I c.args.a c.args.b c.in-Some.limit c.loop-next.paid c.loop-next.at c.loop-next.next-index c.args.inner.now c.paid_along-2.result _ c.loop-next-test.false limit_is (ap is_some (sym c.link_cost.ensures ∙ c.in-Some.is)) (λ none. false≢true (sym c.if-is_empty.false ∙ (c.is_empty.ensures ∙ eq-eqb (length c.args.inner.now) 0 (ap length none)))) c.loop-next.invariant.goes c.paid_along-2.ensures.some c.paid_along-2.ensures.none)

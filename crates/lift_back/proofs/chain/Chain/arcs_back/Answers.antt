use Rattle.std.proofs.Common.{◌≡◌, ◌∙◌, ◌+◌, ap, sym, subst, arith, ℕ, List, [], ◌∷◌, ◌++◌, length, length-append, reverse, inl, inr, None}
use Rattle.std.proofs.lemmas.List.{nil_from_length, append_assoc, reverse-append}
use Rattle.lift_back.specs.Chains.{LeadsOn, arrival_at}
use Rattle.lift_back.proofs.Chaining.{comes_from, tail_of, before_of}
use Rattle.lift_back.proofs.Unchaining.{last_step, led_few}
use Rattle.lift_back.proofs.chain.Chain.arcs_back.Goals as goal

no_arrival : (tail before : ℕ) → None ≡ comes_from tail before → ⊥
no_arrival tail before e = cc

pub returns-in_default : goal.returns-in_default
returns-in_default c start arcs chain led =
    let now = c.loop-turn.invariant start arcs chain led in
    elim (last_step c.args.self.now.arrivals.items start c.loop-turn.at now.0 now.2) [
      | inl e ↦ sym (now.1 ∙ ap (λ (l : List (ℕ × ℕ)). l ++ reverse c.loop-turn.back.items) e.0)
      | inr step ↦ absurd (no_arrival step.tail step.before (c.in_default.ensures ∙ step.is))
    ]

pub loop-turn-preserved : goal.loop-turn-preserved
loop-turn-preserved c start arcs chain led =
    let arrivals = c.args.self.now.arrivals.items in
    let arrival = c.in-Some.arrival in
    let at = c.loop-turn.at in
    let back = c.loop-turn.back.items in
    let now = c.loop-turn.invariant start arcs chain led in
    elim (last_step arrivals start at now.0 now.2) [
      | inl e ↦ absurd (no_arrival arrival.tail arrival.before (sym (c.in-Some.ensures ∙ (sym (ap (arrival_at arrivals) e.1) ∙ chain.others start led.apart))))
      | inr step ↦
          let same : comes_from step.tail step.before ≡ comes_from arrival.tail arrival.before = sym step.is ∙ sym c.in-Some.ensures in
          let one : List (ℕ × ℕ) = (arrival.tail, at) ∷ [] in
          let rest_is : now.0 ≡ step.first ++ one = step.whole ∙ ap (λ (t : ℕ). step.first ++ (t, at) ∷ []) (ap tail_of same) in
          let turned : one ++ reverse back ≡ reverse c.push.new.self.items = sym (ap reverse c.in_ok-push.ensures.items ∙ reverse-append back one) in
          let count = now.3 in
          let longer : length now.0 ≡ length step.first + 1 = ap length rest_is ∙ length-append step.first one in (
            step.first,
            now.1 ∙ (ap (λ (l : List (ℕ × ℕ)). l ++ reverse back) rest_is ∙ (append_assoc step.first one (reverse back) ∙ ap (λ (l : List (ℕ × ℕ)). step.first ++ l) turned)),
            subst (LeadsOn arrivals start step.first) (ap before_of same) step.leads,
            omega arith,
          )
    ]

pub returns : goal.returns
returns c start arcs chain led =
    let now = c.loop-turn.invariant start arcs chain led in
    let few = led_few (length c.args.self.now.arrivals.items) start arcs led in
    let over = c.loop-turn-test.false in
    let ends = c.len-turn-end.ensures in
    let count = now.3 in
    let none : length now.0 ≡ 0 = omega arith in
    sym (now.1 ∙ ap (λ (l : List (ℕ × ℕ)). l ++ reverse c.loop-turn.back.items) (nil_from_length now.0 none))

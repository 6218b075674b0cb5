use Rattle.std.proofs.Common.{◌≡◌, ◌∙◌, ◌<◌, ap, refl, sym, subst, arith, ℕ, List, Option, set}
use Rattle.lift_back.specs.declared.chain.Arrival.{Arrival}
use Rattle.lift_back.proofs.Chaining.{chain_past, comes_from}
use Rattle.lift_back.proofs.chain.Chain.arc_past.Goals as goal

pub returns-clause-led : goal.returns-clause-led
returns-clause-led c start a b arcs between chain led =
    let before = c.in-Some.arrival.before in
    let tail_is : c.in-Some.arrival.tail ≡ c.args.tail = let same = c.if-arrival-tail.false in omega arith in
    let v = c.args.vertex in
    let head = c.args.head in
    chain_past c.args.self.now (record { arrivals = c.put-2.new.arrivals; last = c.args.self.now.last }) start v a b c.args.tail head before arcs between chain led (sym c.in-Some.ensures ∙ ap (λ t. comes_from t before) tail_is)
    (λ v_in head_in. c.put-2.ensures.items (subst (λ (n : ℕ). head < n) (sym c.put.ensures.count) head_in) ∙ ap (λ (l : List (Option Arrival)). set l head (comes_from v v)) (c.put.ensures.items v_in ∙ ap (λ t. set c.args.self.now.arrivals.items v (comes_from t before)) tail_is))
    refl

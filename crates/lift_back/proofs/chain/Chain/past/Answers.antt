use Rattle.std.proofs.Common.{◌≢◌, sym, subst, ℕ, List, length}
use Rattle.lift_back.specs.declared.chain.Chain.{Chain}
use Rattle.lift_back.specs.Chains.{AreLed, IsChainOf, arrival_at}
use Rattle.lift_back.specs.Undoing.{led_past}
use Rattle.lift_back.proofs.Along.{itself_turned}
use Rattle.lift_back.proofs.Chaining.{either, led_past-missing, comes_from}
use Rattle.lift_back.proofs.chain.Chain.past.Goals as goal

pub returns-then-not-arc_past-clause-chain : goal.returns-then-not-arc_past-clause-chain
returns-then-not-arc_past-clause-chain c start arcs chain led =
    let v = c.args.vertex in
    let a = c.args.a in
    let b = c.args.b in
    let first = c.if-not-arc_past.ensures in
    let second = c.arc_past-then-not-arc_past.ensures in
    let new = c.arc_past-then-not-arc_past.new.self in
    let still : IsChainOf start arcs c.arc_past.new.self = subst (IsChainOf start arcs) (sym first.same) chain in
    let led_still : AreLed (length c.arc_past.new.self.arrivals.items) start (led_past v a b arcs) = subst (λ (x : Chain). AreLed (length x.arrivals.items) start (led_past v a b arcs)) (sym first.same) led in
    either c.arc_past-then-not-arc_past.result second.led second.none second.same
    (λ past. past start a b arcs (itself_turned (a, b)) still led_still)
    (λ none same.
    let missing = led_past-missing c.args.self.now.arrivals.items start c.args.self.now.last v a b arcs chain.leads first.none (subst (λ (x : Chain). (before : ℕ) → arrival_at x.arrivals.items a ≢ comes_from b before) first.same none) in
    subst (λ (l : List (ℕ × ℕ)). IsChainOf start l new) (sym missing) (subst (IsChainOf start arcs) (sym same) still))

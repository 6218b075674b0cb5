use Rattle.std.proofs.Common.{◌≡◌, ◌∙◌, ◌+◌, sym, subst, ℕ, List, take, drop, length, get_or, ◌++◌, ◌∷◌, []}
use Rattle.std.proofs.lemmas.List.{take_more, take-append-drop}
use Rattle.lift_back.specs.Chains.{AreLed, IsChainOf}
use Rattle.lift_back.proofs.Unchaining.{led_first}
use Rattle.lift_back.proofs.chain.Chain.of.Goals as goal

pub loop-arc-preserved : goal.loop-arc-preserved
loop-arc-preserved c =
    let i = c.loop-arc.arc-index in
    let arc = get_or c.args.arcs.now i (0, 0) in
    let more : take (i + 1) c.args.arcs.now ≡ take i c.args.arcs.now ++ arc ∷ [] = take_more c.args.arcs.now i (0, 0) c.loop-arc-test.true in
    record {
      count = c.push.ensures.count ∙ c.loop-arc.invariant.count;
      chain = λ led.
          let some : AreLed (c.args.vertices + 1) c.args.start (take (i + 1) c.args.arcs.now) = led_first (c.args.vertices + 1) c.args.start (take (i + 1) c.args.arcs.now) (drop (i + 1) c.args.arcs.now) (subst (AreLed (c.args.vertices + 1) c.args.start) (sym (take-append-drop (i + 1) c.args.arcs.now)) led) in
          let now : AreLed (length c.loop-arc.chain.arrivals.items) c.args.start (take i c.args.arcs.now ++ arc ∷ []) = subst (λ (n : ℕ). AreLed n c.args.start (take i c.args.arcs.now ++ arc ∷ [])) (sym c.loop-arc.invariant.count) (subst (AreLed (c.args.vertices + 1) c.args.start) more some) in
          subst (λ (l : List (ℕ × ℕ)). IsChainOf c.args.start l c.push.new.self) (sym more) (c.push.ensures.chain c.args.start (take i c.args.arcs.now) (c.loop-arc.invariant.chain led) now);
    }

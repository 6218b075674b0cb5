use Rattle.std.proofs.Common.{◌≡◌, ℕ, ◌+◌, ◌∙◌, eqb, length, reverse, List, [], ◌++◌, ◌∷◌, refl, ap, sym, subst, arith}
use Rattle.std.specs.Prelude.{◌&&◌}
use Rattle.std.proofs.lemmas.List.{length_push}
use Rattle.flow_cuts.specs.Sending.{sent}
use Rattle.flow_cuts.proofs.Walks.{IsUnderWay, few_taken, under_way_done, under_way_start, under_way_taken}
use Rattle.flow_cuts.proofs.sending.send_one.Goals as goal

pub loop-tail-init : goal.loop-tail-init
loop-tail-init c = record {
  few = λ u v. omega arith;
  under_way = λ q steps led. subst (λ (r : ℕ). IsUnderWay c.args.arcs.now q (sent c.args.flow.now) (sent c.args.flow.now) r (reverse c.args.steps.now.items)) (sym c.root-current.ensures.root)
      (under_way_start c.args.arcs.now q (sent c.args.flow.now) (reverse c.args.steps.now.items) steps led);
}

pub loop-tail-preserved-then-tail-current : goal.loop-tail-preserved-then-tail-current
loop-tail-preserved-then-tail-current c =
    let D = c.args.arcs.now in
    let rest = c.pop.new.self.items in
    let items : c.loop-tail.steps.items ≡ rest ++ (c.in-Some.tail, c.in-Some.head) ∷ [] = c.in-Some.ensures.items in
    let long : length c.loop-tail.steps.items ≡ length rest + 1 = ap length items ∙ length_push rest (c.in-Some.tail, c.in-Some.head) in
    record {
      few = λ u v. few_taken (eqb c.in-Some.tail u && eqb c.in-Some.head v) (sent c.send.new.self u v) (sent c.loop-tail.flow u v) (length c.loop-tail.steps.items) (length rest)
          (sent c.args.flow.now u v + length c.args.steps.now.items) (c.in_ok-send.ensures u v) long (c.loop-tail.invariant.few u v);
      under_way = λ q steps led. under_way_taken D q (sent c.args.flow.now) (sent c.loop-tail.flow)
          (sent c.send.new.self) c.loop-tail.current c.in-Some.tail c.in-Some.head c.loop-tail.steps.items rest c.root-current.ensures.digraph items c.if-tail-current.true c.in_ok-send.ensures
          (c.loop-tail.invariant.under_way q steps led);
    }

none_left : (xs : List (ℕ × ℕ)) → length xs ≡ 0 → xs ≡ []
none_left [] h = refl
none_left (x ∷ xs) h = absurd (omega arith)

pub returns : goal.returns
returns c q steps led =
    let empty : c.loop-tail.steps.items ≡ [] = none_left c.loop-tail.steps.items (omega (arith, c.in_default.ensures.cases.0)) in
    under_way_done c.args.arcs.now q (sent c.args.flow.now) (sent c.loop-tail.flow) c.loop-tail.current
    (subst (λ (xs : List (ℕ × ℕ)). IsUnderWay c.args.arcs.now q (sent c.args.flow.now) (sent c.loop-tail.flow) c.loop-tail.current (reverse xs)) empty
    (c.loop-tail.invariant.under_way q steps led))

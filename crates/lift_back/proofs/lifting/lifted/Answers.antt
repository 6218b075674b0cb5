use Rattle.std.proofs.Common.{◌≡◌, ◌∙◌, ◌+◌, ◌-◌, ◌<◌, ap, refl, sym, subst, arith, ℕ, List, take, length, get_or}
use Rattle.std.proofs.lemmas.List.{get_or_default, take_all}
use Rattle.lift_back.specs.declared.undo.Undo.{Undo}
use Rattle.lift_back.specs.declared.undo.Undo.TheVariants.{Keep}
use Rattle.lift_back.specs.Chains.{AreLed}
use Rattle.lift_back.specs.Undoing.{arcs_at_first, arcs_before}
use Rattle.lift_back.proofs.Leading.{undo_less}
use Rattle.lift_back.proofs.Unchaining.{led_at_first}
use Rattle.lift_back.proofs.lifting.lifted.Goals as goal

pub loop-left-init : goal.loop-left-init
loop-left-init c = record {
  within = omega arith;
  count = c.in_ok-chain.ensures.count;
  chain = (c.args.arcs.now, c.in_ok-chain.ensures.chain (led_at_first (c.args.vertices + 1) c.args.start c.args.undos.now c.args.arcs.now c.requires), ap (λ (l : List Undo). arcs_at_first l c.args.arcs.now) (take_all (length c.args.undos.now) c.args.undos.now (omega arith)));
}

pub loop-left-preserved : goal.loop-left-preserved
loop-left-preserved c =
    let some = c.loop-left-test.true in
    let few = c.loop-left.invariant.within in
    let next : c.loop-left.left - 1 + 1 ≡ c.loop-left.left = omega arith in
    let within : c.loop-left.left - 1 < length c.args.undos.now = omega arith in
    let undo : Undo = get_or c.args.undos.now (c.loop-left.left - 1) Keep in
    let all = c.loop-left.invariant.chain.0 in
    let same : arcs_at_first (take (c.loop-left.left - 1) c.args.undos.now) (arcs_before undo all) ≡ arcs_at_first c.args.undos.now c.args.arcs.now = undo_less c.args.undos.now undo (c.loop-left.left - 1) all (arcs_before undo all) (arcs_at_first c.args.undos.now c.args.arcs.now) within (get_or_default c.args.undos.now (c.loop-left.left - 1) Keep undo within) (ap (λ (n : ℕ). arcs_at_first (take n c.args.undos.now) all) next ∙ c.loop-left.invariant.chain.2) refl in
    let led : AreLed (length c.loop-left.chain.arrivals.items) c.args.start (arcs_before undo all) = led_at_first (length c.loop-left.chain.arrivals.items) c.args.start (take (c.loop-left.left - 1) c.args.undos.now) (arcs_before undo all) (subst (λ (n : ℕ). AreLed n c.args.start (arcs_at_first (take (c.loop-left.left - 1) c.args.undos.now) (arcs_before undo all))) (sym c.loop-left.invariant.count) (subst (AreLed (c.args.vertices + 1) c.args.start) (sym same) c.requires)) in
    record {
      within = omega arith;
      count = c.undo.ensures.count ∙ c.loop-left.invariant.count;
      chain = (arcs_before undo all, c.undo.ensures.chain c.args.start all c.loop-left.invariant.chain.1 led, same);
    }

pub returns : goal.returns
returns c =
    let none : c.loop-left.left ≡ 0 = let over = c.loop-left-test.false in omega arith in
    let all = c.loop-left.invariant.chain.0 in
    let same : all ≡ arcs_at_first c.args.undos.now c.args.arcs.now = sym (ap (λ (n : ℕ). arcs_at_first (take n c.args.undos.now) all) none) ∙ c.loop-left.invariant.chain.2 in
    let led : AreLed (length c.loop-left.chain.arrivals.items) c.args.start all = subst (λ (n : ℕ). AreLed n c.args.start all) (sym c.loop-left.invariant.count) (subst (AreLed (c.args.vertices + 1) c.args.start) (sym same) c.requires) in
    c.in_ok-all.ensures c.args.start all c.loop-left.invariant.chain.1 led ∙ same

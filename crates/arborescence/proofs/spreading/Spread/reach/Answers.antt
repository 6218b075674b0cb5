use Rattle.std.proofs.Common.{sym, ap, ◌∙◌}
use Rattle.std.proofs.lemmas.List.{take_all}
use Rattle.st_model.proofs.Extending.{Extends-none}
use Rattle.arborescence.specs.declared.spreading.Spread.{Spread}
use Rattle.arborescence.proofs.Spreads.{reached_new, reached_before}
use Rattle.arborescence.proofs.spreading.Spread.reach.Goals as goal
use Rattle.arborescence.proofs.spreading.Spread.reach.Goals.{then-not-contains+in_ok-push+in_ok-insert, else-not-contains}

pub loop-head-init : goal.loop-head-init
loop-head-init c = record { spread = c.requires.spread; extends = Extends-none c.args.self.now.reached.members }

pub loop-head-preserved : goal.loop-head-preserved
loop-head-preserved c =
    let heads = c.args.heads.now in
    let first = c.args.self.now.reached.members in
    let xs = c.at-head-items.result.now in
    let i = c.loop-head.head-index in
    elim c.if-not-contains.branch [
      | then-not-contains+in_ok-push+in_ok-insert w ↦ reached_new heads c.args.root c.args.tail first xs i c.loop-head.self c.if-not-contains.self c.loop-head-test.true c.at-head-items.ensures c.requires.reached c.loop-head.invariant (sym c.contains.ensures ∙ w.if-not-contains.true) (ap (λ (s : Spread). s.arcs.items) w.self-is ∙ w.in_ok-push.ensures.items) (ap (λ (s : Spread). s.reached.members) w.self-is ∙ w.in_ok-insert.ensures.members) (ap (λ (s : Spread). s.reached.count) w.self-is ∙ w.in_ok-insert.ensures.count)
      | else-not-contains w ↦ reached_before heads c.args.root c.args.tail first xs i c.loop-head.self c.if-not-contains.self c.loop-head-test.true c.at-head-items.ensures c.requires.reached c.loop-head.invariant (sym c.contains.ensures ∙ w.if-not-contains.false) w.self-is
    ]

pub returns-clause-extends : goal.returns-clause-extends
returns-clause-extends c = rw (take_all c.loop-head.head-index c.at-head-items.result.now c.loop-head-test.false, c.at-head-items.ensures) at c.loop-head.invariant.extends

use Rattle.std.proofs.Common.{◌+◌, [], ◌∷◌, ap, ◌∙◌, arith}
use Rattle.std.proofs.lemmas.List.{take_all}
use Rattle.st_model.specs.Arborescence.{arc_cost_in}
use Rattle.st_model.specs.Lists.{total}
use Rattle.st_model.proofs.Costs.{total_more}
use Rattle.arborescence.specs.DiNetwork.{di_ground}
use Rattle.arborescence.proofs.DiWeights.{costs_arcs, first_arcs_cost}
use Rattle.arborescence.proofs.judge.di_cost.Goals as goal

pub overflow_add-cost : goal.overflow_add-cost
overflow_add-cost c =
    let D = c.args.instance.now in
    let fit = first_arcs_cost D (c.args.tree.now.start ∷ []) c.args.tree.now.arcs (c.loop-tail.tail-index + 1) c.vertices.ensures.instance c.requires.grows in
    let more = total_more (arc_cost_in (di_ground D)) c.as_slice-tail-items.result.now c.loop-tail.tail-index (0, 0) c.loop-tail-test.true in
    let net = c.vertices.ensures.instance.amount in
    rw (c.unwrap_or-cost.ensures, c.away_cost.ensures.cost, c.loop-tail.invariant, ← more, c.as_slice-tail-items.ensures) (record { fits = omega (arith, fit, net) })

pub loop-tail-preserved : goal.loop-tail-preserved
loop-tail-preserved c =
    let more = total_more (arc_cost_in (di_ground c.args.instance.now)) c.as_slice-tail-items.result.now c.loop-tail.tail-index (0, 0) c.loop-tail-test.true in
    rw (c.unwrap_or-cost.ensures, c.away_cost.ensures.cost, c.loop-tail.invariant, more) (omega arith)

pub returns : goal.returns
returns c =
    let whole = ap (total (arc_cost_in (di_ground c.args.instance.now))) (take_all c.loop-tail.tail-index c.as_slice-tail-items.result.now c.loop-tail-test.false ∙ c.as_slice-tail-items.ensures) in
    c.loop-tail.invariant ∙ whole ∙ costs_arcs c.args.instance.now c.args.tree.now

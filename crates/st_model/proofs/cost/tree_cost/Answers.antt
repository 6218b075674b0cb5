use Rattle.std.proofs.Common.{arith, refl, [], ◌∷◌, ◌+◌, take}
use Rattle.st_model.specs.Arborescence.{reached_from}
use Rattle.st_model.proofs.Costs.{missed_start, missed_le_prizes, Turn, turn, links_fit}
use Rattle.st_model.proofs.cost.tree_cost.Goals as goal
use Rattle.st_model.proofs.cost.tree_cost.Goals.{After-unwrap_or-links}

pub overflow_sub-missed : goal.overflow_sub-missed
overflow_sub-missed c = omega (arith, missed_start c.args.instance.now c.args.tree.now.start c.requires.start)

pub loop-tail-init : goal.loop-tail-init
loop-tail-init c = record {
  links = refl;
  missed = omega (arith, missed_start c.args.instance.now c.args.tree.now.start c.requires.start);
  grows = rw c.as_slice-tail-items.ensures c.requires.grows;
}

-- the arc in hand
turn_here : (c : After-unwrap_or-links) → Turn c.args.instance.now (c.args.tree.now.start ∷ []) c.as_slice-tail-items.result.now c.loop-tail.tail-index c.loop-tail.links c.loop-tail.missed
turn_here c = turn _ _ c.as_slice-tail-items.result.now c.loop-tail.tail-index c.loop-tail.links c.loop-tail.missed c.all_prizes.ensures.instance c.loop-tail-test.true c.loop-tail.invariant.links c.loop-tail.invariant.missed c.loop-tail.invariant.grows

pub overflow_add-links : goal.overflow_add-links
overflow_add-links c =
    let here = turn_here c in
    let fit = links_fit c.args.instance.now (c.args.tree.now.start ∷ []) c.args.tree.now.arcs (c.loop-tail.tail-index + 1) c.all_prizes.ensures.instance c.requires.grows in
    rw (c.unwrap_or-links.ensures, c.link_cost.ensures.cost, here.links, c.as_slice-tail-items.ensures) (record { fits = omega (arith, fit) })

pub overflow_sub-missed-in-loop-tail : goal.overflow_sub-missed-in-loop-tail
overflow_sub-missed-in-loop-tail c = rw c.prize-missed.ensures (turn_here (goal.at.overflow_sub-missed-in-loop-tail c).After-unwrap_or-links).enough

pub loop-tail-preserved : goal.loop-tail-preserved
loop-tail-preserved c =
    let here = turn_here (goal.at.loop-tail-preserved c).After-unwrap_or-links in
    record { links = rw (c.unwrap_or-links.ensures, c.link_cost.ensures.cost) here.links; missed = rw c.prize-missed.ensures here.missed; grows = here.grows }

pub overflow_add-result : goal.overflow_add-result
overflow_add-result c =
    let fit = links_fit c.args.instance.now (c.args.tree.now.start ∷ []) c.args.tree.now.arcs c.loop-tail.tail-index c.all_prizes.ensures.instance c.requires.grows in
    let fewer = missed_le_prizes c.args.instance.now (reached_from (c.args.tree.now.start ∷ []) (take c.loop-tail.tail-index c.args.tree.now.arcs)) in
    rw (c.loop-tail.invariant.links, c.loop-tail.invariant.missed, c.as_slice-tail-items.ensures) (record { fits = omega (arith, fit, fewer) })

use Rattle.std.proofs.Common.{arith, ap, ◌∙◌, ◌≡◌, get_or}
use Rattle.std.specs.Prelude.{unwrap_or}
use Rattle.st_model.specs.Arborescence.{arc_cost}
use Rattle.st_model.proofs.Costs.{missed_start}
use Rattle.tree_heuristic.proofs.Saving.{Next, saves_next, saves_less}
use Rattle.tree_heuristic.proofs.first.costs_less.Goals as goal
use Rattle.tree_heuristic.proofs.first.costs_less.Goals.{After-unwrap_or-spent}

pub loop-tail-init : goal.loop-tail-init
loop-tail-init c = record {
  spent_is = (let first = c.prize-spent.ensures in omega arith);
  saved_is = (let first = c.prize-saved.ensures in let rest = missed_start c.args.store.now.network c.args.tree.now.start c.requires.tree.start in omega arith);
  grows = rw c.as_slice-tail-items.ensures c.requires.tree.grows;
}

-- the arc in hand
next_here : (c : After-unwrap_or-spent) → Next c.args.store.now.network c.args.tree.now.start c.args.alone c.as_slice-tail-items.result.now c.loop-tail.tail-index c.loop-tail.spent c.loop-tail.saved
next_here c = saves_next _ _ c.args.alone c.as_slice-tail-items.result.now c.loop-tail.tail-index c.loop-tail.spent c.loop-tail.saved c.vertices.ensures.graph.instance c.requires.alone (rw c.as_slice-tail-items.ensures c.requires.tree.grows) c.loop-tail-test.true c.loop-tail.invariant

-- what its link costs
link_here : (c : After-unwrap_or-spent) → c.unwrap_or-spent.result ≡ arc_cost c.args.store.now.network (get_or c.as_slice-tail-items.result.now c.loop-tail.tail-index (0, 0))
link_here c = c.unwrap_or-spent.ensures ∙ ap (λ o. unwrap_or o 0) c.link_cost.ensures

pub overflow_add-spent : goal.overflow_add-spent
overflow_add-spent c = let fits = (next_here c).spent_fits in let cost = link_here c in omega arith

pub prize-saved-requires-in-loop-tail : goal.prize-saved-requires-in-loop-tail
prize-saved-requires-in-loop-tail c = (next_here c).head

pub overflow_add-saved : goal.overflow_add-saved
overflow_add-saved c = let fits = (next_here (goal.at.overflow_add-saved c).After-unwrap_or-spent).saved_fits in let prize = c.prize-saved-in-loop-tail.ensures in omega arith

pub loop-tail-preserved : goal.loop-tail-preserved
loop-tail-preserved c =
    let before = (goal.at.loop-tail-preserved c).After-unwrap_or-spent in
    rw (link_here before, c.prize-saved-in-loop-tail.ensures) (next_here before).saves

pub returns : goal.returns
returns c = saves_less c.args.store.now.network c.args.tree.now c.as_slice-tail-items.result.now c.args.alone c.loop-tail.tail-index c.loop-tail.spent c.loop-tail.saved c.requires.alone c.as_slice-tail-items.ensures c.loop-tail-test.false c.loop-tail.invariant

use Rattle.twice_tree.proofs.Ended.{laid_tree, laid_twice, left_alone}
use Rattle.twice_tree.proofs.near.joined_tree.Goals as goal

pub returns-in-Some-clause-none : goal.returns-in-Some-clause-none
returns-in-Some-clause-none c t tree reaches present =
    left_alone c.args.store.now.network c.in_ok-cells.cells c.in_ok-joining.joining c.args.terminals.now c.in_ok-joining.ensures.joining c.requires.those c.in_ok-cells.ensures c.in_ok-joining.ensures.ended c.in-Some.field-0 c.in-Some.ensures.some.0 c.in-Some.ensures.some.1 t tree

pub returns-clause-tree : goal.returns-clause-tree
returns-clause-tree c =
    let I = c.args.store.now.network in
    laid_tree I c.in_ok-cells.cells c.in_ok-joining.joining c.args.terminals.now c.in_ok-joining.ensures.joining c.requires.those c.in-None.ensures.none c.into_tree.result
    (c.into_tree.ensures.tree I c.in_ok-joining.ensures.joining.laid) (c.into_tree.ensures.reached I c.in_ok-joining.ensures.joining.laid)

pub returns-clause-twice : goal.returns-clause-twice
returns-clause-twice c =
    let I = c.args.store.now.network in
    laid_twice I c.in_ok-cells.cells c.in_ok-joining.joining c.args.terminals.now c.in_ok-joining.ensures.joining c.requires.those c.in-None.ensures.none c.in_ok-cells.ensures.instance c.requires.free c.into_tree.result (c.into_tree.ensures.cost I)

use Rattle.std.proofs.Common.{refl}
use Rattle.tree_heuristic.proofs.Found.{spread_tree_of, no_tree_across, start_in}
use Rattle.tree_heuristic.proofs.first.spanning_tree.Goals as goal

pub returns-in-Some-clause-none : goal.returns-in-Some-clause-none
returns-in-Some-clause-none c t tree reaches present =
    let s = c.in_ok-spread.spread in
    let found = c.in-Some.ensures.some in
    let here = start_in c.args.store.now c.args.branch.now.outside s c.args.start c.in_ok-spread.ensures.spread c.in_ok-spread.ensures.start in
    no_tree_across c.args.store.now c.args.branch.now c.args.branch.now.outside s.reached.members c.args.start c.in-Some.field-0 c.in_ok-spread.ensures.graph (λ v vertex. refl) c.in_ok-spread.ensures.closed c.requires.vertex c.requires.certain here found.0 found.1 found.2 t tree reaches

pub returns-in-None-clause-tree : goal.returns-in-None-clause-tree
returns-in-None-clause-tree c = spread_tree_of c.args.store.now c.args.branch.now c.args.branch.now.outside c.in_ok-spread.spread c.into_tree.result c.in_ok-spread.ensures.graph c.requires.branch (λ v vertex. refl) c.in_ok-spread.ensures.spread c.into_tree.ensures.start c.into_tree.ensures.arcs c.in-None.ensures.none

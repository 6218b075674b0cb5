use Rattle.std.proofs.Common.{refl}
use Rattle.tree_heuristic.proofs.Found.{spread_tree_of}
use Rattle.tree_heuristic.proofs.first.grown_tree.Goals as goal

pub returns : goal.returns
returns c = spread_tree_of c.args.store.now c.args.branch.now c.args.branch.now.outside c.in_ok-grown.grown c.into_tree.result c.in_ok-grown.ensures.graph c.requires.branch (λ v vertex. refl) c.in_ok-grown.ensures.spread c.into_tree.ensures.start c.into_tree.ensures.arcs c.in-None.ensures.none

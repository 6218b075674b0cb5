use Rattle.std.proofs.Common.{refl, sym, subst}
use Rattle.st_model.specs.declared.tree.Tree.{Tree}
use Rattle.st_model.specs.Branch.{ReachesAsTold}
use Rattle.tree_heuristic.specs.Keeping.{tree_of}
use Rattle.tree_heuristic.specs.Leaves.{NoLeafToSpare}
use Rattle.tree_heuristic.proofs.Cutting.{pruned_twice}
use Rattle.tree_heuristic.proofs.Leafless.{no_leaf_to_spare, pruned_reaches}
use Rattle.tree_heuristic.proofs.pruning.prune.Goals as goal

pub returns-clause-reaches : goal.returns-clause-reaches
returns-clause-reaches c =
    let I = c.args.instance.now in
    let B = c.args.branch.now in
    let pruned = pruned_twice I B.inside c.args.tree (tree_of c.in_ok-kept.kept) (tree_of c.trim.new.self) c.in_ok-kept.ensures.pruned c.trim.ensures.pruned in
    subst (λ (t : Tree). ReachesAsTold B t) (sym c.into_tree.ensures) (pruned_reaches I B B.inside c.args.tree (tree_of c.trim.new.self) c.requires.branch (λ v low. refl) c.requires.reaches pruned)

pub returns-clause-leaves : goal.returns-clause-leaves
returns-clause-leaves c =
    let I = c.args.instance.now in
    let B = c.args.branch.now in
    subst (λ (t : Tree). NoLeafToSpare I B t) (sym c.into_tree.ensures) (no_leaf_to_spare I B B.inside (tree_of c.trim.new.self) c.in_ok-kept.ensures.instance (λ v low. refl) c.trim.ensures.pruned.arborescence c.trim.ensures.worth c.trim.ensures.start)

use Rattle.std.proofs.Common.{sym, subst}
use Rattle.st_model.specs.Arborescence.{IsTree}
use Rattle.st_model.specs.Branch.{IsBranch}
use Rattle.st_model.specs.Network.{Network}
use Rattle.graph_store.specs.Whole.{IsWholeOf}
use Rattle.better_trees.specs.Part.{IsPartOf}
use Rattle.better_trees.proofs.Found.{reaches_in_whole}
use Rattle.resuming.proofs.lowering.lowered.Goals as goal

pub first_tree-requires : goal.first_tree-requires
first_tree-requires c =
    let of : IsWholeOf c.args.whole.now.instance c.args.whole.now.store = c.args.whole.now.whole in
    let here : IsBranch c.args.whole.now.instance c.in_ok-part.part = subst (IsBranch c.args.whole.now.instance) (sym c.in_ok-part.ensures) c.in_ok-narrow.ensures.branch in
    subst (λ (N : Network). IsBranch N c.in_ok-part.part) (sym of.network) here

pub improve-requires-clause-branch : goal.improve-requires-clause-branch
improve-requires-clause-branch c = subst (IsBranch c.args.whole.now.instance) (sym c.in_ok-part.ensures) c.in_ok-narrow.ensures.branch

pub improve-requires-clause-tree : goal.improve-requires-clause-tree
improve-requires-clause-tree c =
    let of : IsWholeOf c.args.whole.now.instance c.args.whole.now.store = c.args.whole.now.whole in
    let tree : IsTree c.args.whole.now.store.network c.in-Some.found = rw c.in-Some.is at c.in_ok-found.ensures.tree in
    subst (λ (N : Network). IsTree N c.in-Some.found) of.network tree

pub improve-requires-clause-reaches : goal.improve-requires-clause-reaches
improve-requires-clause-reaches c = rw c.in-Some.is at c.in_ok-found.ensures.reaches

pub returns-clause-reaches : goal.returns-clause-reaches
returns-clause-reaches c =
    let part : IsPartOf c.args.branch.now c.in_ok-part.part = subst (IsPartOf c.args.branch.now) (sym c.in_ok-part.ensures) c.in_ok-narrow.ensures.part in
    reaches_in_whole c.args.branch.now c.in_ok-part.part c.in_ok-tree.tree part c.in_ok-tree.ensures.reaches

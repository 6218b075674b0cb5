use Rattle.std.proofs.Common.{◌∙◌, subst, sym, List}
use Rattle.std.specs.Prelude.{All, IfSome}
use Rattle.st_model.specs.Arborescence.{IsTree}
use Rattle.st_model.specs.Branch.{ReachesAsTold}
use Rattle.log_format.proofs.AllTrees.{belongs_left_over}
use Rattle.search_core.specs.declared.gathered.Segment.{Segment}
use Rattle.steiner_top.proofs.Bests.{best_of_search}
use Rattle.steiner_top.proofs.Remaining.{is_branch}
use Rattle.steiner_top.proofs.WithinTwice.{left_alone}
use Rattle.steiner_top.proofs.solving.search_from.Goals as goal

pub near_start-requires-clause-branch : goal.near_start-requires-clause-branch
near_start-requires-clause-branch g c =
    rw (c.requires.whole, c.requires.sides) (is_branch c.args.reduced.now.state c.requires.state)

pub near_start-requires-clause-some : goal.near_start-requires-clause-some
near_start-requires-clause-some g c =
    let (t, is_left) = c.requires.some in
    rw (c.requires.whole, c.requires.sides) (t, is_left.tree, (belongs_left_over c.args.reduced.now.state t is_left).reaches)

pub near_start-requires-clause-gone : goal.near_start-requires-clause-gone
near_start-requires-clause-gone g c =
    rw (c.requires.whole, c.requires.sides) (left_alone c.args.reduced.now.state c.requires.state)

pub run_all-requires-clause-branch : goal.run_all-requires-clause-branch
run_all-requires-clause-branch g c _ _ =
    rw (c.requires.whole, c.branch-branch.ensures, c.requires.sides) (is_branch c.args.reduced.now.state c.requires.state)

pub run_all-requires-clause-reaches : goal.run_all-requires-clause-reaches
run_all-requires-clause-reaches g c _ _ = rw c.branch-branch.ensures c.in_ok-start.ensures.reaches

pub run_all-requires-clause-cheap : goal.run_all-requires-clause-cheap
run_all-requires-clause-cheap g c _ _ none = c.in_ok-start.ensures.cheap (rw c.branch-branch.ensures at none)

pub cheapest-requires-clause-reaches : goal.cheapest-requires-clause-reaches
cheapest-requires-clause-reaches g c = rw c.branch-branch.ensures c.in_ok-start.ensures.reaches

pub cheapest-requires-clause-found : goal.cheapest-requires-clause-found
cheapest-requires-clause-found g c =
    subst (λ (ss : List Segment). All (λ s. IfSome s.best (λ t. IsTree c.args.whole.now.instance t × ReachesAsTold c.branch-branch.result.now t)) ss) (sym c.as_slice.ensures)
    c.in_ok-gathered.ensures.finished.trees

pub returns : goal.returns
returns g c =
    let whole_is = c.requires.whole in
    let branch_is = c.branch-branch.ensures ∙ c.requires.sides in
    let is_start = rw whole_is at c.in_ok-start.ensures.tree in
    let start_reaches = rw c.requires.sides at c.in_ok-start.ensures.reaches in
    let near = rw whole_is at c.in_ok-start.ensures.near in
    let is_tree = rw whole_is at c.in_ok-tree.ensures.tree in
    let reaches = rw branch_is at c.in_ok-tree.ensures.reaches in
    let least = rw whole_is at c.in_ok-tree.ensures.least in
    let complete = rw (whole_is, branch_is) at c.in_ok-gathered.ensures.complete in
    let finished = rw (whole_is, branch_is) at c.in_ok-gathered.ensures.finished in
    rw (c.tree_cost-first.ensures, whole_is)
    (best_of_search c.args.reduced.now.state c.in_ok-start.start c.in_ok-tree.tree c.args.wanted.nodes c.args.wanted.links c.in_ok-gathered.gathered c.as_slice.result.now c.as_slice.ensures
    is_start start_reaches is_tree reaches least complete finished c.in_ok-gathered.ensures.sites c.in_ok-gathered.ensures.writable near)

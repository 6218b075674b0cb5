use Rattle.std.proofs.Common.{[], ◌∷◌, arith}
use Rattle.st_model.specs.Arborescence.{cost_in}
use Rattle.st_model.specs.Branch.{all_trees}
use Rattle.arborescence.specs.DiNetwork.{di_ground}
use Rattle.directed_search.specs.State.{begun}
use Rattle.directed_search.specs.Searching.{nodes_left}
use Rattle.directed_search.proofs.Going.{improves, searching_begins}
use Rattle.directed_search.proofs.Worked.{lines_improved}
use Rattle.directed_search.proofs.answering.found.Goals as goal

pub run-requires-clause-searching : goal.run-requires-clause-searching
run-requires-clause-searching c =
    let D = c.args.instance.now in
    let begins = searching_begins D c.in_ok-tree.tree c.args.budget c.in_ok-tree.ensures in
    improves D (begun c.in_ok-tree.tree (cost_in (di_ground D) c.in_ok-tree.tree) c.args.budget) c.try_tree.new.self (nodes_left D (all_trees ∷ [])) (all_trees ∷ []) begins (rw c.begin-progress.ensures at c.in_ok-try_tree.ensures)

pub run-requires-clause-worked : goal.run-requires-clause-worked
run-requires-clause-worked c =
    lines_improved c.args.instance.now (begun c.in_ok-tree.tree (cost_in (di_ground c.args.instance.now) c.in_ok-tree.tree) c.args.budget) c.try_tree.new.self 0 (rw c.begin-progress.ensures at c.in_ok-try_tree.ensures) (omega arith)

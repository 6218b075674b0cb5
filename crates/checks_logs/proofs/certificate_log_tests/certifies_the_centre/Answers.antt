use Rattle.st_model.specs.Branch.{all_trees}
use Rattle.log_format.proofs.AllTrees.{all_trees-branch}
use Rattle.search_core.proofs.Rooted.{root_node}
use Rattle.checks_logs.proofs.certificate_log_tests.certifies_the_centre.Goals as goal

pub assembled-requires-clause-complete : goal.assembled-requires-clause-complete
assembled-requires-clause-complete c =
    let I = c.in_ok-instance.instance in
    let root = root_node I all_trees (all_trees-branch I) (λ v gone. absurd cc) in
    (c.tree_cost-least.result, 0, rw (c.all.ensures, c.no_cuts.ensures) at c.in_ok-gathered.ensures.complete I root)

use Rattle.std.proofs.lemmas.Bool.{both_ways}
use Rattle.st_model.specs.Branch.{all_trees, is_certain}
use Rattle.node_work.proofs.Heavier.{all_node}
use Rattle.checks_workers.proofs.node_work_tests.ending.closes.Goals as goal

pub expand-requires-clause-node : goal.expand-requires-clause-node
expand-requires-clause-node g c κs within = rw (c.all.ensures, c.no_cuts.ensures) (all_node c.args.whole.now.instance 0)

pub expand-requires-clause-cheap : goal.expand-requires-clause-cheap
expand-requires-clause-cheap g c κs within =
    let I = c.args.whole.now.instance in
    let root = c.args.root in
    rw c.all.ensures (λ none. absurd (both_ways (is_certain I all_trees root) (none root c.requires.vertex) c.requires.certain))

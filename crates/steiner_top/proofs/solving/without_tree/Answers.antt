use Rattle.std.proofs.Common.{rules}
use Rattle.steiner_top.proofs.Certifying.{without_tree}
use Rattle.steiner_top.proofs.solving.without_tree.Goals as goal

pub returns : goal.returns
returns c = λ _ _ _ _. without_tree c.args.instance.now c.of.result c.accepted_holds.ensures c.vertices.ensures.instance (search rules) (search rules)

use Rattle.std.proofs.Common.{rules, ◌∙◌, ap}
use Rattle.std.specs.Prelude.{◌==◌}
use Rattle.std.specs.List.{list_any}
use Rattle.st_model.proofs.RegrowSteps.{reaches_start, reaches_heads}
use Rattle.checks_reduction.proofs.lift_back_tests.judging.reaches.Goals as goal

pub returns-then-tree-vertex : goal.returns-then-tree-vertex
returns-then-tree-vertex c = reaches_start c.args.tree.now.start c.args.tree.now.arcs c.args.vertex (search rules)

pub returns-else-tree-vertex : goal.returns-else-tree-vertex
returns-else-tree-vertex c = c.is_head.ensures ∙ (ap (list_any (λ arc. arc.1 == c.args.vertex)) c.as_slice.ensures ∙ reaches_heads c.args.tree.now.start c.args.tree.now.arcs c.args.vertex c.if-tree-vertex.false)

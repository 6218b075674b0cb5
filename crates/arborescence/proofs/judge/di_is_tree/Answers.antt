use Rattle.std.proofs.Common.{arith}
use Rattle.std.proofs.lemmas.Bool.{false≢true}
use Rattle.arborescence.proofs.DiTrees.{starts_at_root}
use Rattle.arborescence.proofs.judge.di_is_tree.Goals as goal

pub returns-then-tree-root : goal.returns-then-tree-root
returns-then-tree-root c = (
  λ never. absurd (false≢true never),
  λ tree. let same = starts_at_root c.args.instance.now c.args.tree.now c.root.ensures.instance tree in absurd (omega (arith, c.root.ensures.root)),
)

use Rattle.std.proofs.Common.{arith}
use Rattle.std.proofs.lemmas.Bool.{false≢true}
use Rattle.arborescence.proofs.DiWeights.{full_root}
use Rattle.arborescence.proofs.fullness.di_is_full.Goals as goal

pub returns-then-root : goal.returns-then-root
returns-then-root c = (
  λ never. absurd (false≢true never),
  λ full. let same = full_root c.args.instance.now c.args.branch.now c.args.packing.now c.in-Some.root c.root.ensures.instance c.in-Some.is full in absurd (omega (arith, c.root.ensures.root)),
)

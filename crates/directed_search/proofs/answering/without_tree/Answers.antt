use Rattle.std.proofs.Common.{ap, refl}
use Rattle.log_format.specs.declared.log.Claim.TheVariants as claim
use Rattle.directed_search.proofs.Answered.{is_without_tree}
use Rattle.directed_search.proofs.answering.without_tree.Goals as goal

pub returns : goal.returns
returns c = λ nodes. is_without_tree c.args.instance.now c.args.wall.items _ c.vertices.ensures.instance c.requires.wall c.requires.set refl (ap (λ w. claim.NoTree w) c.of.ensures)

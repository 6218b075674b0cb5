use Rattle.st_model.proofs.Extending.{Extends-all}
use Rattle.st_model.proofs.sides.set_of.Goals as goal

pub returns : goal.returns
returns c = Extends-all _ c.args.vertices.now (rw c.in_ok-set.ensures.empty at c.in_ok-extend.ensures.extends)

use Rattle.st_model.proofs.Marked.{IsMarked-in_range}
use Rattle.st_model.proofs.vertex_set.VertexSet.members.Goals as goal

pub returns-clause-in_range : goal.returns-clause-in_range
returns-clause-in_range c = rw (← c.self.view_is) (IsMarked-in_range _ _ c.self.invariant)

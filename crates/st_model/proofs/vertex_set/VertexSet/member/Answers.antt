use Rattle.st_model.proofs.Marked.{IsMarked-in_range, AllApart-few}
use Rattle.st_model.proofs.vertex_set.VertexSet.member.Goals as goal

pub returns-clause-few : goal.returns-clause-few
returns-clause-few c =
    rw (← c.self.view_is) (AllApart-few _ _ c.self.invariant.apart (IsMarked-in_range _ _ c.self.invariant))

pub returns-clause-in_range : goal.returns-clause-in_range
returns-clause-in_range c = rw (← c.self.view_is) (IsMarked-in_range _ _ c.self.invariant)

use Rattle.std.proofs.Common.{drop}
use Rattle.st_model.specs.VertexSet.{IsMarked}
use Rattle.st_model.proofs.vertex_set.unmark.Given as goal

abbrev pub invariant-loop-member : goal.invariant-loop-member
invariant-loop-member l = IsMarked l.marks (drop l.member-index l.members)

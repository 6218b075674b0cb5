use Rattle.std.proofs.Common.{◌≡◌, [], replicate}
use Rattle.st_model.proofs.VectorLists.{lists_of}
use Rattle.st_model.proofs.vertex_lists.VertexLists.new.Given as goal

abbrev pub invariant-loop-vertex : goal.invariant-loop-vertex
invariant-loop-vertex g l = lists_of l.lists.items ≡ replicate l._vertex []

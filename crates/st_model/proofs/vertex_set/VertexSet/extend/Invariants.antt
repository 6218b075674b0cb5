use Rattle.std.proofs.Common.{◌≡◌, take}
use Rattle.st_model.specs.VertexSet.{Extends}
use Rattle.st_model.proofs.vertex_set.VertexSet.extend.Given as goal

abbrev pub invariant-loop-vertex : goal.invariant-loop-vertex
invariant-loop-vertex l =
    record { count : l.self.count ≡ l.fn.self.count; extends : Extends l.fn.self.members l.self.members (take l.vertex-index l.vertices) }

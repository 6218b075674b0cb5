use Rattle.std.proofs.Common.{refl, arith}
use Rattle.st_model.proofs.Extending.{Extends-none, Extends-insert}
use Rattle.st_model.proofs.vertex_set.VertexSet.extend.Goals as goal

pub loop-vertex-init : goal.loop-vertex-init
loop-vertex-init c = record { count = refl; extends = Extends-none _ }

pub loop-vertex-preserved : goal.loop-vertex-preserved
loop-vertex-preserved c = record {
  count = omega (arith, c.in_ok-insert.ensures.count, c.loop-vertex.invariant.count);
  extends = Extends-insert _ _ _ c.args.vertices.now c.loop-vertex.vertex-index c.loop-vertex-test.true c.loop-vertex.invariant.extends c.in_ok-insert.ensures.members;
}

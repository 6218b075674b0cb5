use Rattle.std.proofs.Common.{arith, length-set, ◌∙◌}
use Rattle.std.proofs.lemmas.List.{take_all}
use Rattle.level_packing.proofs.Members.{relabel_more}
use Rattle.level_packing.proofs.forest.relabel.Goals as goal

pub loop-vertex-preserved : goal.loop-vertex-preserved
loop-vertex-preserved c = record {
  len = length-set c.loop-vertex.cluster.items _ c.args.name ∙ c.loop-vertex.invariant.len;
  labels = λ v within. relabel_more c.loop-vertex.cluster.items c.args.vertices.now c.loop-vertex.vertex-index v c.args.name _ c.loop-vertex-test.true (omega (arith, c.loop-vertex.invariant.len)) (c.loop-vertex.invariant.labels v within);
}

pub returns-clause-labels : goal.returns-clause-labels
returns-clause-labels c v within = rw (take_all c.loop-vertex.vertex-index c.args.vertices.now c.loop-vertex-test.false) at (c.loop-vertex.invariant.labels v within)

use Rattle.reductions.proofs.Starting.{taken_off}
use Rattle.reductions.proofs.work.Work.settle.Goals as goal

pub settle_at-requires : goal.settle_at-requires
settle_at-requires c = taken_off c.loop-vertex.self c.pop.new.self c.in-Some.vertex c.in-Some.ensures.items c.loop-vertex.invariant.work

use Rattle.reductions.proofs.Starting.{no_vertex_step}
use Rattle.reductions.proofs.reducing.reduce.Goals as goal

pub returns-clause-vertices : goal.returns-clause-vertices
returns-clause-vertices c = no_vertex_step c.take_all.new.work c.in_ok-take_all.ensures.work

use Rattle.st_model.proofs.ThinGrowth.{links-vertices}
use Rattle.st_model.proofs.ThinSettled.{all-reached}
use Rattle.st_model.proofs.thinning.thin.Goals as goal

pub neighbours_of-requires : goal.neighbours_of-requires
neighbours_of-requires c = rw c.vertices.ensures.count (links-vertices c.args.instance.now c.args.links.now c.vertices.ensures.instance c.requires.links)

pub returns-clause-reached : goal.returns-clause-reached
returns-clause-reached c = rw c.of.ensures (all-reached c.args.links.now c.args.start c.in_ok-arcs.arcs.items c.in_ok-arcs.ensures.settled c.requires.connected)

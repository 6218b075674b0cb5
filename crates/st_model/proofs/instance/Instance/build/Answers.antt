use Rattle.st_model.proofs.Building.{is_instance}
use Rattle.st_model.proofs.instance.Instance.build.Goals as goal

pub invariant_of-result : goal.invariant_of-result
invariant_of-result c = rw (c.in_ok-links.ensures.links, c.in_ok-needs.ensures) (is_instance c.args.vertices c.args.links.now c.args.needs.now c.requires.some_vertex c.requires.few_vertices c.requires.ends c.requires.amount, c.in_ok-links.ensures.pairs)

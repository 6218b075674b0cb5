use Rattle.std.proofs.Common.{ap, ◌∙◌}
use Rattle.std.proofs.lemmas.Result.{IfOk-weaker}
use Rattle.level_packing.specs.Settled.{settled_links}
use Rattle.level_packing.proofs.Settling.{settled_instance, settled_is}
use Rattle.level_packing.proofs.settled.settled.Goals as goal

pub from_parts-requires : goal.from_parts-requires
from_parts-requires c = rw (c.vertices.ensures.count, c.in_ok-links.ensures, c.links.ensures.all, c.in_ok-needs.ensures.items, c.needs.ensures.all) (settled_instance c.args.instance.now c.args.branch.now c.links.ensures.instance)

pub returns : goal.returns
returns c =
    let I = c.args.instance.now in
    let B = c.args.branch.now in
    let links = c.in_ok-links.ensures ∙ ap (settled_links B) c.links.ensures.all in
    let needs = c.in_ok-needs.ensures.items ∙ c.needs.ensures.all in
    IfOk-weaker c.from_parts.result _ _ (λ s same. settled_is I B s (ap (λ i. i.n) same ∙ c.vertices.ensures.count) (ap (λ i. i.links) same ∙ links) (ap (λ i. i.needs) same ∙ needs)) c.from_parts.ensures

use Rattle.std.proofs.Common.{refl, ◌∙◌}
use Rattle.stp_reader.proofs.Totals.{is_payable, ends_in, needs_in}
use Rattle.stp_reader.proofs.reading.reading_of.Goals as goal

pub build-requires-clause-amount : goal.build-requires-clause-amount
build-requires-clause-amount c = rw (c.deref.ensures.value, c.deref-2.ensures.value, c.in_its_unit-scale.ensures.links, c.in_its_unit-scale.ensures.needs) (is_payable c.args.file c.in_its_unit-scale.result c.requires c.in_its_unit-scale.ensures.scale)

pub build-requires-clause-ends : goal.build-requires-clause-ends
build-requires-clause-ends c =
    let file = c.args.file in
    rw (c.deref.ensures.value, c.in_its_unit-scale.ensures.links, c.in_its_unit-scale.ensures.vertices) (ends_in file.vertices c.in_its_unit-scale.result file.links.items c.requires.graph.are_links.fit)

pub build-requires-clause-needs : goal.build-requires-clause-needs
build-requires-clause-needs c =
    let file = c.args.file in
    rw (c.deref-2.ensures.value, c.in_its_unit-scale.ensures.needs, c.in_its_unit-scale.ensures.vertices) (needs_in file.vertices c.in_its_unit-scale.result file.needs.items c.requires.needs)

pub returns-clause-instance : goal.returns-clause-instance
returns-clause-instance c = c.in_ok-instance.ensures ∙ rw (c.deref.ensures.value, c.deref-2.ensures.value, c.in_its_unit-scale.ensures.links, c.in_its_unit-scale.ensures.needs, c.in_its_unit-scale.ensures.vertices, c.in_its_unit-scale.ensures.scale) refl

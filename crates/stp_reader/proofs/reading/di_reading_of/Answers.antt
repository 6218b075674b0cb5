use Rattle.stp_reader.proofs.Totals.{are_payable, ends_in}
use Rattle.stp_reader.proofs.reading.di_reading_of.Goals as goal

pub build-requires-clause-amount : goal.build-requires-clause-amount
build-requires-clause-amount c = rw (c.deref.ensures.value, c.arcs_in_their_unit-scale.ensures.arcs) (are_payable c.args.file c.arcs_in_their_unit-scale.result c.requires c.arcs_in_their_unit-scale.ensures.scale)

pub build-requires-clause-ends : goal.build-requires-clause-ends
build-requires-clause-ends c =
    let file = c.args.file in
    rw (c.deref.ensures.value, c.arcs_in_their_unit-scale.ensures.arcs, c.arcs_in_their_unit-scale.ensures.others) (ends_in file.vertices c.arcs_in_their_unit-scale.result file.arcs.items c.requires.graph.are_links.fit)

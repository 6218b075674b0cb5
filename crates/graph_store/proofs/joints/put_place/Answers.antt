use Rattle.std.proofs.Common.{ap, ◌∙◌, sym, refl, true, false, lt-ltb, le-ltb}
use Rattle.graph_store.specs.Joined.{links_of, is_pair}
use Rattle.graph_store.proofs.JointLemmas.{places_written, links_of-set_value}
use Rattle.graph_store.proofs.joints.put_place.Goals as goal

pub returns-then-from-to-clause-places : goal.returns-then-from-to-clause-places
returns-then-from-to-clause-places c =
    let joint = c.in-Some.joint.now in
    let new = record joint { low = c.args.place } in
    places_written c.args.from c.args.to c.min.result c.max.result c.args.place c.args.joints.now.entries _ joint new true c.min.ensures c.max.ensures c.requires.different (lt-ltb c.args.from c.args.to c.if-from-to.true) c.in-Some.ensures.value (c.get_mut.follows.holds new).0 refl

pub returns-then-from-to-clause-links : goal.returns-then-from-to-clause-links
returns-then-from-to-clause-links c =
    let joint = c.in-Some.joint.now in
    let new = record joint { low = c.args.place } in
    ap links_of (c.get_mut.follows.holds new).0 ∙ links_of-set_value (is_pair c.min.result c.max.result) c.args.joints.now.entries joint new (sym c.in-Some.ensures.value) refl

pub returns-else-from-to-clause-places : goal.returns-else-from-to-clause-places
returns-else-from-to-clause-places c =
    let joint = c.in-Some.joint.now in
    let new = record joint { high = c.args.place } in
    places_written c.args.from c.args.to c.min.result c.max.result c.args.place c.args.joints.now.entries _ joint new false c.min.ensures c.max.ensures c.requires.different (le-ltb c.args.from c.args.to c.if-from-to.false) c.in-Some.ensures.value (c.get_mut.follows.holds new).0 refl

pub returns-else-from-to-clause-links : goal.returns-else-from-to-clause-links
returns-else-from-to-clause-links c =
    let joint = c.in-Some.joint.now in
    let new = record joint { high = c.args.place } in
    ap links_of (c.get_mut.follows.holds new).0 ∙ links_of-set_value (is_pair c.min.result c.max.result) c.args.joints.now.entries joint new (sym c.in-Some.ensures.value) refl

use Rattle.std.proofs.Common.{◌≡◌, ◌<◌, ◌+◌, ◌-◌, length, ap, ◌∙◌, arith}
use Rattle.few_terminals.proofs.Parts.{costs_read, places_read, joined_more}
use Rattle.few_terminals.proofs.joining.join_part.Goals as goal

pub join-requires-clause-first_costs : goal.join-requires-clause-first_costs
join-requires-clause-first_costs c =
    let part = c.requires.part in
    let high = c.requires.within in
    let within : c.args.part < length c.args.rows.now = omega (arith, part, high) in
    ap length (costs_read c.args.rows.now c.args.part c.index-rows-part.result within c.index-rows-part.is) ∙ c.requires.costs c.args.part part.0 within

pub join-requires-clause-first_places : goal.join-requires-clause-first_places
join-requires-clause-first_places c =
    let part = c.requires.part in
    let high = c.requires.within in
    let within : c.args.part < length c.args.rows.now = omega (arith, part, high) in
    ap length (places_read c.args.rows.now c.args.part c.index-rows-part.result within c.index-rows-part.is) ∙ c.requires.places c.args.part part.0 within

pub join-requires-clause-second_costs : goal.join-requires-clause-second_costs
join-requires-clause-second_costs c =
    let part = c.requires.part in
    let high = c.requires.within in
    let within : c.args.bits - c.args.part < length c.args.rows.now = omega (arith, part, high) in
    ap length (costs_read c.args.rows.now (c.args.bits - c.args.part) c.index-rows-rest.result within c.index-rows-rest.is) ∙ c.requires.costs (c.args.bits - c.args.part) (omega (arith, part)) within

pub join-requires-clause-second_places : goal.join-requires-clause-second_places
join-requires-clause-second_places c =
    let part = c.requires.part in
    let high = c.requires.within in
    let within : c.args.bits - c.args.part < length c.args.rows.now = omega (arith, part, high) in
    ap length (places_read c.args.rows.now (c.args.bits - c.args.part) c.index-rows-rest.result within c.index-rows-rest.is) ∙ c.requires.places (c.args.bits - c.args.part) (omega (arith, part)) within

pub returns-clause-joined : goal.returns-clause-joined
returns-clause-joined c I ks es rows before =
    let part = c.requires.part in
    let high = c.requires.within in
    let within : c.args.part < length c.args.rows.now = omega (arith, part, high) in
    let within_also : c.args.bits - c.args.part < length c.args.rows.now = omega (arith, part, high) in
    let sum : c.args.part + (c.args.bits - c.args.part) ≡ c.args.bits = omega (arith, part) in
    let costs = costs_read c.args.rows.now c.args.part c.index-rows-part.result within c.index-rows-part.is in
    joined_more I ks es c.args.reached.now c.args.rows.now c.args.bits c.args.part (c.args.bits - c.args.part) rows sum c.if-part-rest-ne0.false c.args.marks.now.items c.join.new.marks.items c.index-rows-part.result c.index-rows-rest.result costs
    (places_read c.args.rows.now c.args.part c.index-rows-part.result within c.index-rows-part.is) (costs_read c.args.rows.now (c.args.bits - c.args.part) c.index-rows-rest.result within_also c.index-rows-rest.is) (places_read c.args.rows.now (c.args.bits - c.args.part) c.index-rows-rest.result within_also c.index-rows-rest.is)
    (ap length costs ∙ c.requires.costs c.args.part part.0 within) c.join.ensures before

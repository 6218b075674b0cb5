use Rattle.std.proofs.Common.{ap, sym, ◌∙◌, refl, eqb, eq-eqb, true, ◌≡◌, option_map, Option, Some, None, ℕ}
use Rattle.graph_store.specs.Joined.{halves_at, place_of, place_in}
use Rattle.graph_store.proofs.Halves.{AreHalves-last, AreHalves-moved, told_last}
use Rattle.graph_store.proofs.LinkLemmas.{joint_of-loop, some_joint}
use Rattle.graph_store.proofs.links.detach.Goals as goal

pub put_place-requires-clause-linked : goal.put_place-requires-clause-linked
put_place-requires-clause-linked c =
    let known = told_last (halves_at c.args.lists.now.items c.args.from) (halves_at c.take_half.new.lists.items c.args.from) c.args.place (place_of c.args.joints.now.entries c.args.from) c.in-Some.moved c.in-Some.ensures.here c.requires.halves (sym c.in-Some.ensures.moved) in
    some_joint c.args.joints.now.entries c.args.from c.in-Some.moved.to _ known

pub put_place-requires-clause-different : goal.put_place-requires-clause-different
put_place-requires-clause-different c same =
    let known = told_last (halves_at c.args.lists.now.items c.args.from) (halves_at c.take_half.new.lists.items c.args.from) c.args.place (place_of c.args.joints.now.entries c.args.from) c.in-Some.moved c.in-Some.ensures.here c.requires.halves (sym c.in-Some.ensures.moved) in
    let clash : ◌≡◌ {A = Option (ℕ × ℕ)} None (Some _) = sym (ap (option_map (place_in c.args.from c.args.from)) (joint_of-loop c.args.joints.now.entries c.args.from c.requires.pairs.ordered)) ∙ ap (place_of c.args.joints.now.entries c.args.from) same ∙ known in
    cc

pub returns-in-Some-clause-halves : goal.returns-in-Some-clause-halves
returns-in-Some-clause-halves c =
    let yes : eqb c.args.from c.args.from ≡ true = eq-eqb c.args.from c.args.from refl in
    AreHalves-moved (halves_at c.args.lists.now.items c.args.from) (halves_at c.take_half.new.lists.items c.args.from) c.args.place c.in-Some.ensures.here c.requires.place (place_of c.args.joints.now.entries c.args.from) c.requires.halves c.in-Some.moved (place_of c.put_place.new.joints.entries c.args.from) (sym c.in-Some.ensures.moved)
    (λ w. c.put_place.ensures.places c.args.from w ∙ rw yes refl)

pub returns-in_default-clause-halves : goal.returns-in_default-clause-halves
returns-in_default-clause-halves c =
    AreHalves-last (halves_at c.args.lists.now.items c.args.from) (halves_at c.take_half.new.lists.items c.args.from) c.args.place c.take_half.ensures.here c.requires.place (place_of c.args.joints.now.entries c.args.from) c.requires.halves (sym c.take_half.ensures.moved ∙ c.in_default.is)

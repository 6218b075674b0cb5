use Rattle.std.proofs.Common.{refl, sym, ◌∙◌}
use Rattle.std.proofs.lemmas.List.Elements.{recursion_from_All}
use Rattle.st_model.specs.Lists.{has}
use Rattle.arborescence.proofs.Building.{is_di_network, stated_member, those_same}
use Rattle.arborescence.proofs.instance.DiInstance.build.Goals as goal

pub invariant_of-result : goal.invariant_of-result
invariant_of-result c =
    let n = c.args.vertices in
    let stated = c.args.terminals.now in
    let same = c.in_ok-terminals.ensures ∙ those_same (λ v. has c.in_ok-stated.stated.members v) (λ v. has stated v) n c.in_ok-stated.ensures.members in
    rw (c.in_ok-arcs.ensures.arcs, same) (is_di_network n c.args.root c.args.arcs.now stated c.requires.few_vertices c.requires.root c.requires.ends c.requires.amount, c.in_ok-arcs.ensures.pairs, λ v below. c.in_ok-stated.ensures.members v below ∙ sym (stated_member stated n v (recursion_from_All _ stated c.requires.terminals)))

pub returns : goal.returns
returns c =
    let n = c.args.vertices in
    let stated = c.args.terminals.now in
    let same = c.in_ok-terminals.ensures ∙ those_same (λ v. has c.in_ok-stated.stated.members v) (λ v. has stated v) n c.in_ok-stated.ensures.members in
    rw (c.in_ok-arcs.ensures.arcs, same) refl

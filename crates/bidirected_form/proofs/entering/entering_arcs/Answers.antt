use Rattle.std.proofs.Common.{◌≡◌, ◌∙◌, ap}
use Rattle.std.proofs.lemmas.List.{take_all}
use Rattle.bidirected_form.proofs.Entered.{exactly_found, sorted_found, found_in}
use Rattle.bidirected_form.proofs.entering.entering_arcs.Goals as goal

pub returns-clause-arcs : goal.returns-clause-arcs
returns-clause-arcs c =
    let all : c.loop-vertex.found.items ≡ found_in c.args.marks.now c.args.rows.now c.args.set.now = c.loop-vertex.invariant ∙ ap (found_in c.args.marks.now c.args.rows.now) (take_all c.loop-vertex.vertex-index c.args.set.now c.loop-vertex-test.false) in
    exactly_found c.args.marks.now c.args.rows.now c.args.set.now c.sort.new.self.items (rw all at c.in_ok-sort.ensures.permutation)

pub returns-clause-ascending : goal.returns-clause-ascending
returns-clause-ascending c =
    let all : c.loop-vertex.found.items ≡ found_in c.args.marks.now c.args.rows.now c.args.set.now = c.loop-vertex.invariant ∙ ap (found_in c.args.marks.now c.args.rows.now) (take_all c.loop-vertex.vertex-index c.args.set.now c.loop-vertex-test.false) in
    sorted_found c.args.marks.now c.args.rows.now c.args.set.now c.sort.new.self.items c.requires.ascending c.requires.set.1.ascending (rw all at c.in_ok-sort.ensures.permutation) c.in_ok-sort.ensures.sorted

use Rattle.std.proofs.Common.{rules, ◌∙◌, sym, map}
use Rattle.std.specs.Prelude.{IsPermutation}
use Rattle.std.specs.List.Sorted.{IsNonDecreasingBy}
use Rattle.std.proofs.lemmas.List.Sorted.{IsNonDecreasingBy-from_sort, answers_always}
use Rattle.bidirected_form.specs.declared.arc.Arc.{Arc}
use Rattle.bidirected_form.specs.Building.{arc_of}
use Rattle.bidirected_form.proofs.Built.{arcs_of_halves, costs_of_halves, kept}
use Rattle.bidirected_form.proofs.building.row_into.Goals as goal

pub returns-clause-arcs : goal.returns-clause-arcs
returns-clause-arcs c =
    let up : IsNonDecreasingBy (λ (a : Arc). a.tail) c.sort_by_key.new.self.items = IsNonDecreasingBy-from_sort (λ (a : Arc). a.tail) _ (c.in_ok-sort_by_key.ensures.sorted (λ (a : Arc). a.tail) (answers_always _ _ _ (λ f a r g h. search rules))) in
    let moved : IsPermutation (map arc_of (kept c.args.branch.now c.args.kinds.now c.args.vertex c.neighbours.result.now)) c.sort_by_key.new.self.items = rw c.in_ok-row.ensures at c.in_ok-sort_by_key.ensures.permutation in
    arcs_of_halves c.args.store.now.network c.args.branch.now c.args.kinds.now c.args.vertex c.neighbours.result.now c.sort_by_key.new.self.items c.neighbours.ensures.halves moved up

pub returns-clause-costs : goal.returns-clause-costs
returns-clause-costs c =
    let up : IsNonDecreasingBy (λ (a : Arc). a.tail) c.sort_by_key.new.self.items = IsNonDecreasingBy-from_sort (λ (a : Arc). a.tail) _ (c.in_ok-sort_by_key.ensures.sorted (λ (a : Arc). a.tail) (answers_always _ _ _ (λ f a r g h. search rules))) in
    let moved : IsPermutation (map arc_of (kept c.args.branch.now c.args.kinds.now c.args.vertex c.neighbours.result.now)) c.sort_by_key.new.self.items = rw c.in_ok-row.ensures at c.in_ok-sort_by_key.ensures.permutation in
    let are = arcs_of_halves c.args.store.now.network c.args.branch.now c.args.kinds.now c.args.vertex c.neighbours.result.now c.sort_by_key.new.self.items c.neighbours.ensures.halves moved up in
    costs_of_halves c.args.store.now c.args.branch.now c.args.kinds.now c.args.vertex c.neighbours.result.now c.sort_by_key.new.self.items c.neighbours.ensures.halves moved are (sym c.is_outside.ensures ∙ c.if-is_outside.false)

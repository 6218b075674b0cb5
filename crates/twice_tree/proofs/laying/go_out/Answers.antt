use Rattle.std.proofs.Common.{ℕ, List, is_some, refl, subst, sym, ap, ◌∙◌}
use Rattle.std.specs.Prelude.{IsTrue}
use Rattle.std.proofs.lemmas.Bool.{false≢true}
use Rattle.st_model.specs.Lists.{has}
use Rattle.short_paths.specs.Walk.{first_of, path_cost}
use Rattle.twice_tree.specs.Cells.{far_in}
use Rattle.twice_tree.proofs.Ways.{way_to, none_is_far, goes_along, goes_nowhere}
use Rattle.twice_tree.proofs.laying.go_out.Goals as goal

pub returns-then-contains : goal.returns-then-contains
returns-then-contains c = goes_nowhere c.args.store.now.network c.args.laid.now c.args.vertex c.args.vertex (far_in c.args.cells.now.distances c.args.vertex) c.requires.laid (sym c.contains.ensures ∙ c.if-contains.true) refl

pub returns-in_default : goal.returns-in_default
returns-in_default c = absurd (none_is_far c.args.cells.now.distances c.args.vertex (rw c.in_default.is at c.in_ok-path.ensures) c.requires.near)

pub follow_path-requires-clause-from : goal.follow_path-requires-clause-from
follow_path-requires-clause-from c =
    let way = (way_to c.args.store.now.network c.args.cells.now c.args.vertex c.in-Some.path.items c.requires.cells c.requires.vertex (λ same. false≢true (sym c.if-contains.false ∙ (c.contains.ensures ∙ subst (λ (v : ℕ). IsTrue (has c.args.laid.now.reached.members v)) same c.requires.from))) (rw c.in-Some.is at c.in_ok-path.ensures)) in
    subst (λ (path : List ℕ). IsTrue (has c.args.laid.now.reached.members (first_of path))) (sym c.deref.ensures.value) (subst (λ (v : ℕ). IsTrue (has c.args.laid.now.reached.members v)) (sym way.begins) c.requires.from)

pub follow_path-requires-clause-linked : goal.follow_path-requires-clause-linked
follow_path-requires-clause-linked c =
    let way = (way_to c.args.store.now.network c.args.cells.now c.args.vertex c.in-Some.path.items c.requires.cells c.requires.vertex (λ same. false≢true (sym c.if-contains.false ∙ (c.contains.ensures ∙ subst (λ (v : ℕ). IsTrue (has c.args.laid.now.reached.members v)) same c.requires.from))) (rw c.in-Some.is at c.in_ok-path.ensures)) in
    ap is_some (ap (path_cost c.args.store.now.network.links) c.deref.ensures.value ∙ way.cost)

pub returns : goal.returns
returns c =
    let way = (way_to c.args.store.now.network c.args.cells.now c.args.vertex c.in-Some.path.items c.requires.cells c.requires.vertex (λ same. false≢true (sym c.if-contains.false ∙ (c.contains.ensures ∙ subst (λ (v : ℕ). IsTrue (has c.args.laid.now.reached.members v)) same c.requires.from))) (rw c.in-Some.is at c.in_ok-path.ensures)) in
    goes_along c.args.store.now.network c.args.laid.now c.follow_path.new.self c.deref.result.now c.args.vertex (far_in c.args.cells.now.distances c.args.vertex) c.in_ok-follow_path.ensures.laid c.in_ok-follow_path.ensures.reached c.in_ok-follow_path.ensures.cost
    (ap (path_cost c.args.store.now.network.links) c.deref.ensures.value ∙ way.cost) (ap (λ (path : List ℕ). has path c.args.vertex) c.deref.ensures.value ∙ way.there)

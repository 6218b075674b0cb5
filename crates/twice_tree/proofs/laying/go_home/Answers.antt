use Rattle.std.proofs.Common.{ℕ, List, is_some, subst, sym, ap, ◌∙◌}
use Rattle.std.specs.Prelude.{IsTrue}
use Rattle.st_model.specs.Lists.{has}
use Rattle.short_paths.specs.Walk.{first_of, path_cost}
use Rattle.twice_tree.specs.Cells.{far_in, terminal_of}
use Rattle.twice_tree.proofs.Ways.{way_to, none_is_far, goes_along, goes_nowhere}
use Rattle.twice_tree.proofs.laying.go_home.Goals as goal

pub returns-then-place-vertex : goal.returns-then-place-vertex
returns-then-place-vertex c = goes_nowhere c.args.store.now.network c.args.laid.now c.args.vertex (terminal_of c.args.store.now.network c.args.cells.now.distances c.args.vertex) (far_in c.args.cells.now.distances c.args.vertex) c.requires.laid c.requires.from (sym c.if-place-vertex.true ∙ (c.place.ensures c.args.store.now.network c.requires.cells c.requires.vertex).terminal)

pub returns-in_default : goal.returns-in_default
returns-in_default c = absurd (none_is_far c.args.cells.now.distances c.args.vertex (rw c.in_default.is at c.in_ok-path.ensures) c.requires.near)

pub follow_path-requires-clause-from : goal.follow_path-requires-clause-from
follow_path-requires-clause-from c =
    let way = (way_to c.args.store.now.network c.args.cells.now c.args.vertex c.in-Some.path.items c.requires.cells c.requires.vertex (λ same. c.if-place-vertex.false ((c.place.ensures c.args.store.now.network c.requires.cells c.requires.vertex).terminal ∙ same)) (rw c.in-Some.is at c.in_ok-path.ensures)) in
    let turned = c.deref.ensures.value ∙ c.reverse.ensures.items in
    subst (λ (path : List ℕ). IsTrue (has c.args.laid.now.reached.members (first_of path))) (sym turned) (subst (λ (v : ℕ). IsTrue (has c.args.laid.now.reached.members v)) (sym way.turned) c.requires.from)

pub follow_path-requires-clause-linked : goal.follow_path-requires-clause-linked
follow_path-requires-clause-linked c =
    let way = (way_to c.args.store.now.network c.args.cells.now c.args.vertex c.in-Some.path.items c.requires.cells c.requires.vertex (λ same. c.if-place-vertex.false ((c.place.ensures c.args.store.now.network c.requires.cells c.requires.vertex).terminal ∙ same)) (rw c.in-Some.is at c.in_ok-path.ensures)) in
    let turned = c.deref.ensures.value ∙ c.reverse.ensures.items in
    ap is_some (ap (path_cost c.args.store.now.network.links) turned ∙ way.back)

pub returns : goal.returns
returns c =
    let way = (way_to c.args.store.now.network c.args.cells.now c.args.vertex c.in-Some.path.items c.requires.cells c.requires.vertex (λ same. c.if-place-vertex.false ((c.place.ensures c.args.store.now.network c.requires.cells c.requires.vertex).terminal ∙ same)) (rw c.in-Some.is at c.in_ok-path.ensures)) in
    let turned = c.deref.ensures.value ∙ c.reverse.ensures.items in
    let k = terminal_of c.args.store.now.network c.args.cells.now.distances c.args.vertex in
    goes_along c.args.store.now.network c.args.laid.now c.follow_path.new.self c.deref.result.now k (far_in c.args.cells.now.distances c.args.vertex) c.in_ok-follow_path.ensures.laid c.in_ok-follow_path.ensures.reached c.in_ok-follow_path.ensures.cost
    (ap (path_cost c.args.store.now.network.links) turned ∙ way.back) (ap (λ (path : List ℕ). has path k) turned ∙ way.home)

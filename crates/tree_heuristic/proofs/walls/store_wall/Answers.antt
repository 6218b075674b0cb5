use Rattle.std.proofs.Common.{◌∙◌, [], ap, refl}
use Rattle.st_model.specs.declared.branch.Branch.{Branch}
use Rattle.st_model.specs.declared.tree.Tree.{Tree}
use Rattle.tree_heuristic.proofs.Found.{none_required, spread_tree, found_wall, start_in}
use Rattle.tree_heuristic.proofs.walls.store_wall.Goals as goal

pub returns-in_default-clause-none : goal.returns-in_default-clause-none
returns-in_default-clause-none c =
    (record { start = 1; arcs = [] }, none_required c.args.store.now.network c.args.store.now c.in_ok-branch.branch c.in_ok-nothing.nothing.members c.vertices-vertices.ensures.graph.instance refl c.in_ok-nothing.ensures.empty c.in_default.ensures.none)

pub returns-in-None-clause-none : goal.returns-in-None-clause-none
returns-in-None-clause-none c =
    let s = c.in_ok-spread.spread in
    let t : Tree = record { start = s.start; arcs = s.arcs.items } in
    (t, spread_tree c.args.store.now c.in_ok-branch.branch c.in_ok-branch.branch.outside s t c.in_ok-spread.ensures.graph c.in_ok-spread.ensures.spread refl refl c.in-None.ensures.none)

pub returns-clause-some : goal.returns-clause-some
returns-clause-some c =
    let g = c.args.store.now in
    let out = c.in_ok-branch.branch.outside in
    let s = c.in_ok-spread.spread in
    let first = c.in-Some.ensures.some in
    let found = c.in-Some-missing.ensures.some in
    let list = c.in_ok-ascending-in-Some-missing.ensures in
    found_wall c.args.store.now.network g c.in_ok-branch.branch out s.reached.members c.in_ok-ascending-in-Some-missing.field-0.items c.in-Some.start c.in-Some-missing.field-0 c.vertices-vertices.result c.vertices-vertices.ensures.graph.instance refl (ap (λ (b : Branch). b.inside) (c.in_ok-branch.ensures ∙ c.all.ensures)) (ap (λ (b : Branch). b.outside) (c.in_ok-branch.ensures ∙ c.all.ensures)) c.in_ok-spread.ensures.closed c.vertices-vertices.ensures.count list.set list.same first.0 first.1 (start_in g out s c.in-Some.start c.in_ok-spread.ensures.spread c.in_ok-spread.ensures.start) found.0 found.1 found.2

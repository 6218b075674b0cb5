use Rattle.std.proofs.Common.{refl, subst, arith}
use Rattle.special_dist.specs.Searching.{IsSearch}
use Rattle.special_dist.proofs.Closing.{ends_are_vertices, no_detour}
use Rattle.special_dist.proofs.search.Search.run.Goals as goal

pub prove-unreachable-requires : goal.prove-unreachable-requires
prove-unreachable-requires c =
    let ends = ends_are_vertices c.args.store.now.network c.args.quest c.vertices.ensures.graph.instance c.requires.quest in
    let high = ends.0.1 in
    let count = c.vertices.ensures.count in
    let above = c.if-prove.true in
    omega arith

pub begin-requires : goal.begin-requires
begin-requires c =
    let ends = ends_are_vertices c.args.store.now.network c.args.quest c.vertices.ensures.graph.instance c.requires.quest in
    let high = ends.0.1 in
    let long = c.requires.places in
    omega arith

pub loop-place-init : goal.loop-place-init
loop-place-init c = record {
  search = c.in_ok-begin.ensures.search c.args.store.now.network c.args.quest refl (ends_are_vertices c.args.store.now.network c.args.quest c.vertices.ensures.graph.instance c.requires.quest).0;
  places = c.begin.ensures.places;
}

pub spread-requires-clause-search : goal.spread-requires-clause-search
spread-requires-clause-search c = c.in-Some.ensures.search c.args.store.now.network c.args.quest c.loop-place.invariant.search

pub returns-clause-ends : goal.returns-clause-ends
returns-clause-ends c =
    no_detour c.args.store.now.network c.args.quest c.loop-place.self
    (subst (IsSearch c.args.store.now.network c.args.quest c.loop-place.self) c.in_default.ensures.empty c.loop-place.invariant.search) c.requires.quest

use Rattle.std.proofs.Common.{arith, subst, sym, List, get_or, take}
use Rattle.std.proofs.lemmas.List.{take_more, take_all}
use Rattle.std.proofs.lemmas.List.Elements.{Contains-get_or}
use Rattle.graph_store.specs.declared.half.Half.{Half}
use Rattle.short_paths.specs.Steps.{HasFollowed}
use Rattle.short_paths.proofs.MarkLists.{length-bests_of}
use Rattle.short_paths.proofs.Relaxing.{followed_none, followed_more, followed_all}
use Rattle.short_paths.proofs.search.Search.relax.Goals as goal

nothing : Half
nothing = record { to = 0; cost = 0 }

pub loop-half-init : goal.loop-half-init
loop-half-init c = followed_none c.args.store.now.network.links c.args.store.now.network.n c.args.limit c.args.vertex c.args.cost c.args.self.now

pub follow-requires : goal.follow-requires
unfolding nothing
follow-requires c =
    let range = (c.neighbours-half-items.ensures.halves.others c.loop-half.half-index nothing c.loop-half-test.true).0.1 in
    let long = c.loop-half.invariant.best_long in
    let first = c.requires.marks in
    let before = length-bests_of c.args.self.now.marks.items in
    let now = length-bests_of c.loop-half.self.marks.items in
    omega arith

pub loop-half-preserved : goal.loop-half-preserved
unfolding nothing
loop-half-preserved c =
    let halves = c.neighbours-half-items.result.now in
    let i = c.loop-half.half-index in
    let are = c.neighbours-half-items.ensures.halves in
    let half : Half = get_or halves i nothing in
    let range = (are.others i nothing c.loop-half-test.true).0 in
    let linked = (are.linked half.to half.cost).0 (Contains-get_or halves i nothing c.loop-half-test.true) in
    let high = range.1 in
    let long = c.loop-half.invariant.best_long in
    let first = c.requires.marks in
    let before = length-bests_of c.args.self.now.marks.items in
    subst (λ (hs : List Half). HasFollowed c.args.store.now.network.links c.args.store.now.network.n c.args.limit c.args.vertex c.args.cost hs c.args.self.now c.follow.new.self) (sym (take_more halves i nothing c.loop-half-test.true))
    (followed_more c.args.store.now.network.links c.args.store.now.network.n c.args.limit c.args.vertex c.args.cost (take i halves) half c.args.self.now c.loop-half.self c.follow.new.self (omega arith) range linked c.in_ok-follow.ensures.ok c.follow.ensures.length c.loop-half.invariant)

pub returns : goal.returns
returns c =
    let halves = c.neighbours-half-items.result.now in
    let all = take_all c.loop-half.half-index halves c.loop-half-test.false in
    let followed = subst (λ (hs : List Half). HasFollowed c.args.store.now.network.links c.args.store.now.network.n c.args.limit c.args.vertex c.args.cost hs c.args.self.now c.loop-half.self) all c.loop-half.invariant in
    followed_all c.args.store.now.network c.args.limit c.args.vertex c.args.cost halves c.args.self.now c.loop-half.self c.neighbours-half-items.ensures.halves (omega arith) followed

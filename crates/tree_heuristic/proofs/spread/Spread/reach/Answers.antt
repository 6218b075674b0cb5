use Rattle.std.proofs.Common.{subst, sym, List, get_or, take, ap}
use Rattle.std.specs.Prelude.{is_some}
use Rattle.std.proofs.lemmas.List.{take_more, take_all}
use Rattle.std.proofs.lemmas.List.Elements.{Contains-get_or}
use Rattle.graph_store.specs.declared.half.Half.{Half}
use Rattle.tree_heuristic.specs.Spreading.{HasGoneOn}
use Rattle.tree_heuristic.proofs.Spreads.{gone_on_more}
use Rattle.tree_heuristic.proofs.Settled.{followed_all}
use Rattle.tree_heuristic.proofs.spread.Spread.reach.Goals as goal

nothing : Half
nothing = record { to = 0; cost = 0 }

pub loop-half-preserved : goal.loop-half-preserved
unfolding nothing
loop-half-preserved c =
    let g = c.args.store.now in
    let out = c.args.branch.now.outside in
    let halves = c.neighbours-half-items.result.now in
    let i = c.loop-half.half-index in
    let are = c.neighbours-half-items.ensures.halves in
    let half : Half = get_or halves i nothing in
    let linked = (are.linked half.to half.cost).0 (Contains-get_or halves i nothing c.loop-half-test.true) in
    subst (λ (hs : List Half). HasGoneOn g out c.args.self.now hs c.follow.new.self) (sym (take_more halves i nothing c.loop-half-test.true))
    (gone_on_more g out c.args.self.now c.loop-half.self c.follow.new.self (take i halves) half c.args.tail c.neighbours-half-items.ensures.graph c.loop-half.invariant c.requires.tail (ap is_some linked) c.in_ok-follow.ensures)

pub returns : goal.returns
returns c =
    let halves = c.neighbours-half-items.result.now in
    let all = take_all c.loop-half.half-index halves c.loop-half-test.false in
    followed_all c.args.store.now c.args.branch.now.outside c.args.self.now c.loop-half.self halves c.args.tail c.neighbours-half-items.ensures.halves (subst (λ (hs : List Half). HasGoneOn c.args.store.now c.args.branch.now.outside c.args.self.now hs c.loop-half.self) all c.loop-half.invariant)

use Rattle.std.proofs.Common.{List, get_or, take, sym, subst, ◌∙◌}
use Rattle.std.proofs.lemmas.List.{take_more, take_all}
use Rattle.graph_store.specs.declared.half.Half.{Half}
use Rattle.few_terminals.specs.Reach.{HasFollowed}
use Rattle.few_terminals.proofs.Reaching.{followed_more}
use Rattle.few_terminals.proofs.reach.follow.Goals as goal

abbrev nothing : Half
nothing = record { to = 0; cost = 0 }

pub loop-half-preserved : goal.loop-half-preserved
loop-half-preserved c =
    let I = c.args.store.now.network in
    let halves = c.neighbours-half-items.result.now in
    let i = c.loop-half.half-index in
    let half : Half = get_or halves i nothing in
    let old = c.args.reached.now.members in
    let range = (c.neighbours-half-items.ensures.halves.others i nothing c.loop-half-test.true).0 in
    record {
      followed = subst (λ (hs : List Half). HasFollowed I old hs c.insert.new.self.members) (sym (take_more halves i nothing c.loop-half-test.true)) (followed_more I old c.loop-half.reached.members c.insert.new.self.members (take i halves) half range c.in_ok-insert.ensures.members c.loop-half.invariant.followed);
      count = c.in_ok-insert.ensures.count ∙ c.loop-half.invariant.count;
    }

pub returns-clause-followed : goal.returns-clause-followed
returns-clause-followed c =
    let halves = c.neighbours-half-items.result.now in
    let all = take_all c.loop-half.half-index halves c.loop-half-test.false in
    (halves, c.neighbours-half-items.ensures.halves, subst (λ (hs : List Half). HasFollowed c.args.store.now.network c.args.reached.now.members hs c.loop-half.reached.members) all c.loop-half.invariant.followed)

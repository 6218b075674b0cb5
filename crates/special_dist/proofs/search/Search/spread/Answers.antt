use Rattle.std.proofs.Common.{List, get_or, take, sym, subst, ◌∙◌, arith}
use Rattle.std.proofs.lemmas.List.{take_more, take_all}
use Rattle.std.proofs.lemmas.List.Elements.{Contains-get_or}
use Rattle.graph_store.specs.declared.half.Half.{Half}
use Rattle.special_dist.specs.declared.search.Search.{Search}
use Rattle.special_dist.specs.Answers.{IsReachedFrom}
use Rattle.special_dist.specs.Searching.{waiting}
use Rattle.special_dist.specs.Steps.{HasGone}
use Rattle.special_dist.proofs.Going.{not_other, on_false, on_true, visit_there}
use Rattle.special_dist.proofs.Taking.{gone_more, gone_all, taken}
use Rattle.special_dist.proofs.search.Search.spread.Goals as goal

nothing : Half
nothing = record { to = 0; cost = 0 }

pub paid_at-requires : goal.paid_at-requires
paid_at-requires c =
    let search = c.requires.search in
    let at = visit_there c.args.self.now.visits.items c.args.place c.index-visit.result.now (search.places 0 0 (omega arith)) c.index-visit.ensures in
    let high = (search.visits c.args.place c.index-visit.result.now at).vertex.1 in
    let long = c.requires.places in
    omega arith

pub returns-then-ne-clause-spread : goal.returns-then-ne-clause-spread
returns-then-ne-clause-spread c =
    let search = c.requires.search in
    let visit = c.index-visit.result.now in
    let at = visit_there c.args.self.now.visits.items c.args.place visit (search.places 0 0 (omega arith)) c.index-visit.ensures in
    taken c.args.store.now.network c.args.quest c.args.self.now c.args.place visit (waiting c.args.self.now) at
    (λ is. absurd (not_other c.paid_at.result visit.paid (c.paid_at.ensures ∙ is) c.if-ne.ensures)) search

pub neighbours-half-items-requires : goal.neighbours-half-items-requires
neighbours-half-items-requires c =
    let search = c.requires.search in
    let at = visit_there c.args.self.now.visits.items c.args.place c.index-visit.result.now (search.places 0 0 (omega arith)) c.index-visit.ensures in
    (search.visits c.args.place c.index-visit.result.now at).vertex

pub go-requires-clause-visit : goal.go-requires-clause-visit
go-requires-clause-visit c =
    let search = c.requires.search in
    let at = visit_there c.args.self.now.visits.items c.args.place c.index-visit.result.now (search.places 0 0 (omega arith)) c.index-visit.ensures in
    c.loop-half.invariant.gone.keeps.visits c.args.place c.index-visit.result.now at

pub go-requires-clause-within : goal.go-requires-clause-within
go-requires-clause-within c =
    let search = c.requires.search in
    let at = visit_there c.args.self.now.visits.items c.args.place c.index-visit.result.now (search.places 0 0 (omega arith)) c.index-visit.ensures in
    (search.visits c.args.place c.index-visit.result.now at).within

pub go-requires-clause-linked : goal.go-requires-clause-linked
unfolding nothing
go-requires-clause-linked c =
    let halves = c.neighbours-half-items.result.now in
    let half : Half = get_or halves c.loop-half.half-index nothing in
    (c.neighbours-half-items.ensures.halves.linked half.to half.cost).0 (Contains-get_or halves c.loop-half.half-index nothing c.loop-half-test.true)

pub returns-then-branch-clause-reached : goal.returns-then-branch-clause-reached
returns-then-branch-clause-reached c =
    let search = c.requires.search in
    let visit = c.index-visit.result.now in
    let at = visit_there c.args.self.now.visits.items c.args.place visit (search.places 0 0 (omega arith)) c.index-visit.ensures in
    let reached = on_true c.in_ok-go.field-0 c.if-branch.true c.in_ok-go.ensures.reached in
    subst (λ (s : Search). IsReachedFrom c.args.store.now.network c.args.quest s.visits.items c.args.place) (sym reached.1) (record {
      visit = visit;
      there = c.loop-half.invariant.gone.keeps.visits c.args.place visit at;
      are = (c.loop-half.invariant.gone.search search).visits;
      goes = reached.0;
    })

pub loop-half-preserved : goal.loop-half-preserved
unfolding nothing
loop-half-preserved c =
    let halves = c.neighbours-half-items.result.now in
    let i = c.loop-half.half-index in
    let gone = on_false c.in_ok-go.field-0 c.if-branch.false c.in_ok-go.ensures.gone in
    record {
      gone = subst (λ (hs : List Half). HasGone c.args.store.now.network c.args.quest c.args.place c.index-visit.result.now hs c.args.self.now c.go.new.self) (sym (take_more halves i nothing c.loop-half-test.true))
          (gone_more c.args.store.now.network c.args.quest c.args.place c.index-visit.result.now (take i halves) (get_or halves i nothing) c.args.self.now c.loop-half.self c.go.new.self c.loop-half.invariant.gone gone);
      places = c.go.ensures.places ∙ c.loop-half.invariant.places;
    }

pub returns-clause-spread : goal.returns-clause-spread
returns-clause-spread c =
    let halves = c.neighbours-half-items.result.now in
    let search = c.requires.search in
    let visit = c.index-visit.result.now in
    let at = visit_there c.args.self.now.visits.items c.args.place visit (search.places 0 0 (omega arith)) c.index-visit.ensures in
    let gone = subst (λ (hs : List Half). HasGone c.args.store.now.network c.args.quest c.args.place visit hs c.args.self.now c.loop-half.self) (take_all c.loop-half.half-index halves c.loop-half-test.false) c.loop-half.invariant.gone in
    gone_all c.args.store.now.network c.args.quest c.args.place visit halves c.args.self.now c.loop-half.self c.neighbours-half-items.ensures.halves at gone search

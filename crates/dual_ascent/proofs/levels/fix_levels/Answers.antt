use Rattle.std.proofs.Common.{◌≡◌, ℕ, ◌+◌, ◌<◌, length, take, refl, sym, ap, subst, ◌∙◌, arith}
use Rattle.st_model.specs.Lists.{has}
use Rattle.dual_ascent.specs.Searching.{AreNear, AreUpTo, vertices_of}
use Rattle.dual_ascent.proofs.Levelled.{level, level_first, level_rises, level_past, first_in_range, distance_here, read_at, has_next, up_none, up_step, levels_made}
use Rattle.dual_ascent.proofs.levels.fix_levels.Goals.{After-index-in-loop-place, then-step-gt0+in_ok-cut_round+in_ok-push, else-step-gt0}
use Rattle.dual_ascent.proofs.levels.fix_levels.Goals as goal

pub loop-place-init : goal.loop-place-init
loop-place-init c =
    let D = c.args.arcs.now in
    let far = c.in_ok-least.ensures in
    let near = rw (c.vertices.ensures.count, c.deref.ensures.value) at c.in_ok-near.ensures in
    record {
      count = c.in_ok-set.ensures.count ∙ ap (λ (n : ℕ). n + 1) c.vertices-2.ensures.count;
      members = λ v. rw c.in_ok-set.ensures.empty refl;
      up = rw c.new-cuts.ensures.items (up_none D c.args.vertex _ c.in_ok-least.least.items (level_first D.n c.index-limit.result.now c.in_ok-least.least.items c.in_ok-near.near.items near c.args.vertex c.requires.vertex far.end));
    }

-- the place is one of the list's, which has what is near, and the set has those up to there
below_here : (c : After-index-in-loop-place) → c.loop-place.place < length c.in_ok-near.near.items
below_here c = omega (arith, c.loop-place-test.true, c.loop-place.auto.place-end, c.len-place-end.ensures)

near_here : (c : After-index-in-loop-place) → AreNear c.args.arcs.now.n c.index-limit.result.now c.in_ok-least.least.items c.in_ok-near.near.items
near_here c = rw (c.vertices.ensures.count, c.deref.ensures.value) at c.in_ok-near.ensures

members_here : (c : After-index-in-loop-place) → (v : ℕ) → has c.insert.new.self.members v ≡ has (vertices_of (take (c.loop-place.place + 1) c.in_ok-near.near.items)) v
members_here c = has_next c.in_ok-near.near.items c.loop-place.place c.index.result.now c.loop-place.set.members c.insert.new.self.members (below_here c) (sym c.index.ensures) c.in_ok-insert.ensures.members c.loop-place.invariant.members

pub overflow_sub-step : goal.overflow_sub-step
overflow_sub-step c =
    let here = (goal.at.overflow_sub-step c).After-index-in-loop-place in
    let D = c.args.arcs.now in
    let i = c.loop-place.place in
    let rows = c.in_ok-near.near.items in
    let below = below_here here in
    let near = near_here here in
    let next = rw c.deref-in-loop-place.ensures.value at c.distance_at.ensures in
    omega (arith, next, distance_here rows i c.index-limit.result.now c.index-in-loop-place.result.now below c.index-in-loop-place.ensures, level_rises D.n c.index-limit.result.now c.in_ok-least.least.items rows near i below)

pub cut_round-requires : goal.cut_round-requires
cut_round-requires c =
    let here = (goal.at.cut_round-requires c).After-index-in-loop-place in
    let D = c.args.arcs.now in
    rw c.vertices-then-step-gt0.ensures.count (record {
      in_range = first_in_range D.n c.index-limit.result.now c.in_ok-least.least.items c.in_ok-near.near.items (near_here here) c.loop-place.place c.insert.new.self.members (below_here here) (members_here here);
    })

pub loop-place-preserved : goal.loop-place-preserved
loop-place-preserved c =
    let here = (goal.at.loop-place-preserved c).After-index-in-loop-place in
    let D = c.args.arcs.now in
    let q = c.args.vertex in
    let i = c.loop-place.place in
    let least = c.in_ok-least.least.items in
    let limit = c.index-limit.result.now in
    let rows = c.in_ok-near.near.items in
    let below = below_here here in
    let far = c.in_ok-least.ensures in
    let graph = c.root.ensures.digraph in
    let limit_is = read_at least c.root.result D.root limit c.index-limit.ensures c.root.ensures.root (omega (arith, graph.root.1, far.long)) in
    let near = near_here here in
    let next = rw c.deref-in-loop-place.ensures.value at c.distance_at.ensures in
    let from = distance_here rows i limit c.index-in-loop-place.result.now below c.index-in-loop-place.ensures in
    let members = members_here here in
    record {
      count = c.insert.ensures.count ∙ c.loop-place.invariant.count;
      members = members;
      up = elim c.if-step-gt0.branch [
        | then-step-gt0+in_ok-cut_round+in_ok-push w ↦
            let cut = w.in_ok-cut_round.ensures in
            rw (w.cuts-is, w.in_ok-push.ensures.items) (up_step D q c.args.target least graph c.requires.vertex c.requires.there far limit limit_is rows i c.loop-place.cuts.items _ near below (omega (arith, w.if-step-gt0.true, next, from)) c.loop-place.invariant.up cut.q cut.ascending (λ v. cut.members v ∙ members v) (omega (arith, cut.y, next, from)))
        | else-step-gt0 w ↦
            let same : level rows i limit ≡ level rows (i + 1) limit = omega (arith, w.if-step-gt0.false, next, from, level_rises D.n limit least rows near i below) in
            rw w.cuts-is (subst (λ (x : ℕ). AreUpTo D q x least c.loop-place.cuts.items) same c.loop-place.invariant.up)
      ];
    }

pub returns : goal.returns
returns c =
    let D = c.args.arcs.now in
    let q = c.args.vertex in
    let least = c.in_ok-least.least.items in
    let limit = c.index-limit.result.now in
    let rows = c.in_ok-near.near.items in
    let far = c.in_ok-least.ensures in
    let graph = c.root.ensures.digraph in
    let limit_is = read_at least c.root.result D.root limit c.index-limit.ensures c.root.ensures.root (omega (arith, graph.root.1, far.long)) in
    let top : level rows c.loop-place.place limit ≡ limit = level_past rows c.loop-place.place limit (omega (arith, c.loop-place-test.false, c.len-place-end.ensures)) in
    levels_made D q c.args.target least graph c.requires.vertex c.requires.there far limit limit_is c.loop-place.cuts.items c.packing.result c.ranges.target.fits (rw c.root-2.ensures.root at c.packing.ensures) (subst (λ (x : ℕ). AreUpTo D q x least c.loop-place.cuts.items) top c.loop-place.invariant.up)

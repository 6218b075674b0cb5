use Rattle.std.proofs.Common.{◌≡◌, ◌≤◌, ◌<◌, ◌∙◌, ◌+◌, ◌++◌, ◌∷◌, drop, length, get_or, subst, sym, arith}
use Rattle.st_model.specs.Branch.{IsVertexSet}
use Rattle.cut_packing.specs.declared.cut.Cut.{Cut}
use Rattle.dual_ascent.specs.Laws.{IsCharged}
use Rattle.dual_ascent.proofs.FreedCuts.{all_kept, arcs_room, freed_charged, freed_ends, held_cut, packed, kept_all, kept_total, names_vertex, next_cut, next_freed, next_held, prize_room}
use Rattle.dual_ascent.proofs.freeing.free.Goals as goal
use Rattle.dual_ascent.proofs.freeing.free.Goals.{After-is_marked, then-is_marked, else-is_marked+in_ok-shared+in_ok-push}

-- the place of the cut in hand is one of the packing's, and the cut stands there
low_here : (c : After-is_marked) → c.loop-place.place < length c.args.packing.now.cuts
low_here c = rw c.as_slice-cut-items.ensures at c.loop-place-test.true

is_here : (c : After-is_marked) → c.cut-item.result ≡ get_or c.args.packing.now.cuts c.loop-place.place c.cut-item.result
is_here c = rw c.as_slice-cut-items.ensures at c.cut-item.is

-- what is left now is what the cuts that are kept so far, the cut in hand and those to come leave
charged_here : (c : After-is_marked) → IsCharged c.args.store.now c.args.branch.now
    (packed c.args.packing.now.root (c.loop-place.cuts.items ++ c.cut-item.result ∷ drop (c.loop-place.place + 1) c.args.packing.now.cuts)) c.loop-place.left.arcs c.loop-place.left.twins
charged_here c =
    let loop = c.loop-place in
    next_cut c.args.store.now c.args.branch.now c.args.packing.now.root loop.cuts.items c.args.packing.now.cuts loop.place c.cut-item.result loop.left.arcs loop.left.twins
    (low_here c) (is_here c) loop.invariant.charged

pub give_back_cut-requires-clause-set : goal.give_back_cut-requires-clause-set
give_back_cut-requires-clause-set c =
    let here = (goal.at.give_back_cut-requires-clause-set c).After-is_marked in
    let is_set : Cut → Type 0 = λ d. IsVertexSet c.args.store.now.network.n d.set in
    rw c.loop-place.invariant.charged.left.count (subst is_set (sym (is_here here)) (c.requires.sets c.loop-place.place c.cut-item.result (low_here here)))

pub give_back_cut-requires-clause-vertex : goal.give_back_cut-requires-clause-vertex
give_back_cut-requires-clause-vertex c =
    let here = (goal.at.give_back_cut-requires-clause-vertex c).After-is_marked in
    names_vertex c.args.store.now c.args.branch.now c.args.packing.now.root c.loop-place.cuts.items c.cut-item.result _ c.loop-place.left.arcs c.loop-place.left.twins
    c.vertices-2.ensures.graph (charged_here here)

pub give_back_cut-requires-clause-room : goal.give_back_cut-requires-clause-room
give_back_cut-requires-clause-room c =
    let here = (goal.at.give_back_cut-requires-clause-room c).After-is_marked in
    arcs_room c.args.store.now c.args.branch.now c.args.packing.now.root c.loop-place.cuts.items c.cut-item.result _ c.loop-place.left.arcs c.loop-place.left.twins
    c.vertices-2.ensures.graph (charged_here here)

pub give_back_cut-requires-clause-prize : goal.give_back_cut-requires-clause-prize
give_back_cut-requires-clause-prize c =
    let here = (goal.at.give_back_cut-requires-clause-prize c).After-is_marked in
    prize_room c.args.store.now c.args.branch.now c.args.packing.now.root c.loop-place.cuts.items c.cut-item.result _ c.loop-place.left.arcs c.loop-place.left.twins
    c.vertices-2.ensures.graph (charged_here here)

pub loop-place-preserved : goal.loop-place-preserved
loop-place-preserved c =
    let here = (goal.at.loop-place-preserved c).After-is_marked in
    let g = c.args.store.now in
    let B = c.args.branch.now in
    let root = c.args.packing.now.root in
    let cuts = c.args.packing.now.cuts in
    let loop = c.loop-place in
    let seen = loop.cuts.items in
    let i = loop.place in
    let cut = c.cut-item.result in
    let low = low_here here in
    let is = is_here here in
    let h = charged_here here in
    let so_far = loop.invariant in
    elim c.if-is_marked.branch [
      | then-is_marked w ↦
          let back = w.give_back_cut.ensures in
          rw (w.left-is, w.cuts-is) (record {
            charged = freed_charged g B root seen cut _ loop.left.arcs loop.left.twins c.vertices-2.ensures.graph h _ _ back.arcs back.ends;
            ends = freed_ends g B root seen cut _ loop.left.arcs loop.left.twins c.vertices-2.ensures.graph h _ _ back.arcs back.ends so_far.ends;
            root = back.arcs.root ∙ so_far.root;
            kept = next_freed c.args.freed.now cuts _ seen i cut low (sym c.is_marked.ensures ∙ w.if-is_marked.true) so_far.kept;
          })
      | else-is_marked+in_ok-shared+in_ok-push w ↦
          rw (w.left-is, w.cuts-is, w.in_ok-push.ensures.items, w.in_ok-shared.ensures) (record {
            charged = held_cut g B root seen cuts i cut loop.left.arcs loop.left.twins low is so_far.charged;
            ends = so_far.ends;
            root = so_far.root;
            kept = next_held c.args.freed.now cuts _ seen i cut low is (sym c.is_marked.ensures ∙ w.if-is_marked.false) so_far.kept;
          })
    ]

pub returns-clause-sets : goal.returns-clause-sets
returns-clause-sets c =
    let cuts = c.args.packing.now.cuts in
    let past : length cuts ≤ c.loop-place.place = rw c.as_slice-cut-items.ensures at c.loop-place-test.false in
    let is = all_kept c.args.freed.now cuts c.loop-place.cuts.items c.loop-place.place past c.loop-place.invariant.kept in
    rw (c.of.ensures, is) (kept_all (λ d. IsVertexSet c.args.store.now.network.n d.set) c.args.freed.now cuts c.requires.sets)

pub returns-clause-lighter : goal.returns-clause-lighter
returns-clause-lighter c =
    let cuts = c.args.packing.now.cuts in
    let past : length cuts ≤ c.loop-place.place = rw c.as_slice-cut-items.ensures at c.loop-place-test.false in
    let is = all_kept c.args.freed.now cuts c.loop-place.cuts.items c.loop-place.place past c.loop-place.invariant.kept in
    rw (c.of.ensures, is) (omega (arith, kept_total (λ d. d.y) c.args.freed.now cuts))

use Rattle.std.proofs.Common.{◌<◌, ◌≤◌, cond, List, [], None, length, sym, subst, ◌∙◌}
use Rattle.std.specs.Prelude.{◌==◌}
use Rattle.std.proofs.lemmas.List.{take_all}
use Rattle.st_model.specs.declared.link.Link.{Link}
use Rattle.cut_packing.specs.Loads.{AreLoadedIn}
use Rattle.arborescence.specs.DiNetwork.{arc_from, di_ground}
use Rattle.arborescence.proofs.OpenArcs.{arc_skipped, arc_added}
use Rattle.arborescence.proofs.loads.free_arcs.Goals as goal
use Rattle.arborescence.proofs.loads.free_arcs.Goals.{then-is_open+in_ok-add, else-is_open}

pub loop-arc-preserved : goal.loop-arc-preserved
loop-arc-preserved c =
    let D = c.args.instance.now in
    let B = c.args.branch.now in
    let e = c.arcs-arc-items.ensures.all in
    let none : Link = record { a = 0; b = 0; cost = 0 } in
    let below : c.loop-arc.arc-index < length D.arcs = rw e at c.loop-arc-test.true in
    elim c.if-is_open.branch [
      | then-is_open+in_ok-add w ↦ rw (w.arcs-is, w.in_ok-add.ensures.ok, e) (arc_added D B c.arcs-arc-items.ensures.instance c.loop-arc.arc-index none below c.loop-arc.arcs c.loop-arc.invariant (rw (e, c.root-root.ensures.root) at (sym c.is_open.ensures ∙ w.if-is_open.true)))
      | else-is_open w ↦ rw w.arcs-is (arc_skipped D B c.arcs-arc-items.ensures.instance c.loop-arc.arc-index none below c.loop-arc.arcs c.loop-arc.invariant (rw (e, c.root-root.ensures.root) at (sym c.is_open.ensures ∙ w.if-is_open.false)))
    ]

pub returns : goal.returns
returns c =
    let past : length c.args.instance.now.arcs ≤ c.loop-arc.arc-index = rw c.arcs-arc-items.ensures.all at c.loop-arc-test.false in
    let D = c.args.instance.now in
    subst (λ (ls : List Link). AreLoadedIn (di_ground D) c.args.branch.now (λ u v. cond (v == D.root) None (arc_from ls u v)) [] c.loop-arc.arcs) (take_all c.loop-arc.arc-index D.arcs past) c.loop-arc.invariant

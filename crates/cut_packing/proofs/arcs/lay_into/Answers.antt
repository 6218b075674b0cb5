use Rattle.std.proofs.Common.{◌<◌, length, sym, ◌∙◌}
use Rattle.cut_packing.specs.declared.arcs.LoadedArc.{LoadedArc}
use Rattle.cut_packing.specs.Loads.{arcs_into}
use Rattle.cut_packing.proofs.ArcLists.{laid_outside, laid_inside, laid_more, laid_past}
use Rattle.cut_packing.proofs.arcs.lay_into.Goals as goal
use Rattle.cut_packing.proofs.arcs.lay_into.Goals.{then-not-contains, else-not-contains}

pub loop-place-preserved : goal.loop-place-preserved
loop-place-preserved c =
    let none : LoadedArc = record { tail = 0; cost = 0; load = 0 } in
    let members = c.args.set.now.members in
    let old = c.args.arcs.now in
    let now = c.loop-place.arcs in
    let within : c.loop-place.place < length (arcs_into old c.args.head) = rw c.at-place-end.ensures at c.loop-place-test.true in
    let held = rw c.at.ensures at c.contains.ensures in
    elim c.if-not-contains.branch [
      | then-not-contains w ↦ w.arcs-is ∙ rw c.at.ensures at w.set.ensures ∙ laid_more members c.args.value old now c.args.head c.loop-place.place c.requires.head c.loop-place.invariant none _ within (laid_outside _ _ _ _ w.from.ensures (sym held ∙ w.if-not-contains.true))
      | else-not-contains w ↦ w.arcs-is ∙ laid_past members c.args.value old now c.args.head c.loop-place.place c.requires.head c.loop-place.invariant none within (laid_inside _ _ _ (sym held ∙ w.if-not-contains.false))
    ]

use Rattle.std.proofs.Common.{◌≤◌, subst}
use Rattle.std.specs.Prelude.{All}
use Rattle.cut_packing.specs.declared.arcs.LoadedArc.{LoadedArc}
use Rattle.st_model.proofs.VectorLists.{All-lists}
use Rattle.cut_packing.proofs.arcs.can_bear.Goals as goal

pub returns : goal.returns
returns c =
    let Bears = All (λ (arc : LoadedArc). arc.load ≤ arc.cost) in
    let same = All-lists Bears c.lists.result.now in
    (λ yes. subst (All Bears) c.lists.ensures (same.1 (c.lists_can_bear.ensures.0 yes)), λ all. c.lists_can_bear.ensures.1 (same.0 (rw c.lists.ensures all)))

use Rattle.std.proofs.Common.{◌≡◌, set}
use Rattle.cut_packing.specs.Loads.{arcs_into}
use Rattle.cut_packing.proofs.ArcLists.{laid_first}
use Rattle.cut_packing.proofs.arcs.lay_into.Given as goal

abbrev pub invariant-loop-place : goal.invariant-loop-place
invariant-loop-place l =
    l.arcs ≡ set l.fn.arcs l.head (laid_first l.set.members l.value l.place (arcs_into l.fn.arcs l.head))

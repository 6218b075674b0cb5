use Rattle.std.proofs.Common.{[]}
use Rattle.cut_packing.specs.Loads.{AreLoadedIn}
use Rattle.arborescence.specs.DiNetwork.{di_ground}
use Rattle.arborescence.proofs.OpenArcs.{first_price}
use Rattle.arborescence.proofs.loads.free_arcs.Given as goal

abbrev pub invariant-loop-arc : goal.invariant-loop-arc
invariant-loop-arc l = AreLoadedIn (di_ground l.instance) l.branch (first_price l.instance l.arc-index) [] l.arcs

use Rattle.std.proofs.Common.{[], take}
use Rattle.cut_packing.specs.Loads.{AreLoaded}
use Rattle.cut_packing.proofs.loads.free_arcs.Given as goal

abbrev pub invariant-loop-link : goal.invariant-loop-link
invariant-loop-link l = AreLoaded l.instance l.branch (take l.link-index l.instance.links) [] l.arcs

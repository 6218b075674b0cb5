use Rattle.std.proofs.Common.{take}
use Rattle.dual_ascent.proofs.Bordering.{IsLeastInto}
use Rattle.dual_ascent.proofs.border.border_of.Given as goal

abbrev pub invariant-loop-vertex : goal.invariant-loop-vertex
invariant-loop-vertex l = IsLeastInto l.arcs l.set.members (take l.vertex-index l.set.members) l.limit l.border.least

use Rattle.std.proofs.Common.{take}
use Rattle.dual_ascent.specs.Left.{AreLowered, AreSpent}
use Rattle.dual_ascent.proofs.charging.charge_cuts.Given as goal

abbrev pub invariant-loop-cut : goal.invariant-loop-cut
invariant-loop-cut l = record {
  arcs : AreLowered l.fn.arcs l.arcs (take l.cut-index l.cuts);
  ends : AreSpent l.fn.twins l.twins (take l.cut-index l.cuts);
}

use Rattle.std.proofs.Common.{take}
use Rattle.dual_ascent.specs.Turns.{IsLeastOf}
use Rattle.dual_ascent.proofs.border.Border.pass.Given as goal

abbrev pub invariant-loop-arc : goal.invariant-loop-arc
invariant-loop-arc l = IsLeastOf l.set.members (take l.arc-index l.arcs) l.fn.self.least l.self.least

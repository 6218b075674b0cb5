use Rattle.std.proofs.Common.{◌≡◌, take}
use Rattle.st_model.specs.VertexSet.{Extends}
use Rattle.dual_ascent.specs.Turns.{free_tails}
use Rattle.dual_ascent.proofs.growing.add_tails.Given as goal

abbrev pub invariant-loop-arc : goal.invariant-loop-arc
invariant-loop-arc l = record {
  count : l.set.count ≡ l.fn.set.count;
  extends : Extends l.fn.set.members l.set.members (free_tails (take l.arc-index l.arcs));
}

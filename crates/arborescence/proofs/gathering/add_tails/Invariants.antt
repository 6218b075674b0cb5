use Rattle.std.proofs.Common.{◌≡◌, take}
use Rattle.st_model.specs.VertexSet.{Extends}
use Rattle.arborescence.specs.Gathering.{used_tails}
use Rattle.arborescence.proofs.gathering.add_tails.Given as goal

abbrev pub invariant-loop-arc : goal.invariant-loop-arc
invariant-loop-arc l = record {
  count : l.set.count ≡ l.fn.set.count;
  extends : Extends l.fn.set.members l.set.members (used_tails (take l.arc-index l.arcs));
}

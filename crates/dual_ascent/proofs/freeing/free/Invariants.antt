use Rattle.std.proofs.Common.{◌≡◌, ◌++◌, drop}
use Rattle.dual_ascent.specs.Freed.{kept}
use Rattle.dual_ascent.specs.Laws.{IsCharged}
use Rattle.dual_ascent.specs.Left.{AreEndsOf}
use Rattle.dual_ascent.proofs.freeing.free.Given as goal

abbrev pub invariant-loop-place : goal.invariant-loop-place
invariant-loop-place l = record {
  charged : IsCharged l.store l.branch (record { root = l.packing.root; cuts = l.cuts.items ++ drop l.place l.packing.cuts }) l.left.arcs l.left.twins;
  ends : AreEndsOf l.left.arcs l.left.twins;
  root : l.left.arcs.root ≡ l.fn.left.arcs.root;
  kept : kept l.freed l.packing.cuts ≡ l.cuts.items ++ kept (drop l.place l.freed) (drop l.place l.packing.cuts);
}

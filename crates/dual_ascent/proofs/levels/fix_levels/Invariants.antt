use Rattle.std.proofs.Common.{◌≡◌, ℕ, ◌+◌, take}
use Rattle.st_model.specs.Lists.{has}
use Rattle.dual_ascent.specs.Searching.{vertices_of, AreUpTo}
use Rattle.dual_ascent.proofs.Levelled.{level}
use Rattle.dual_ascent.proofs.levels.fix_levels.Given as goal

abbrev pub invariant-loop-place : goal.invariant-loop-place
invariant-loop-place l = record {
  count : l.set.count ≡ l.arcs.n + 1;
  members : (v : ℕ) → has l.set.members v ≡ has (vertices_of (take l.place l.near.items)) v;
  up : AreUpTo l.arcs l.vertex (level l.near.items l.place l.limit) l.least.items l.cuts.items;
}

use Rattle.std.proofs.Common.{◌≡◌, ℕ, ◌<◌, length, take, slice_index_or}
use Rattle.std.specs.Prelude.{if◌then◌else◌}
use Rattle.st_model.specs.Lists.{has}
use Rattle.level_packing.proofs.forest.relabel.Given as goal

abbrev pub invariant-loop-vertex : goal.invariant-loop-vertex
invariant-loop-vertex l = record {
  len : length l.cluster.items ≡ length l.initial.cluster.items;
  labels : (v : ℕ) → v < length l.initial.cluster.items → slice_index_or l.cluster.items v 0 ≡ (if has (take l.vertex-index l.vertices) v then l.name else slice_index_or l.initial.cluster.items v 0);
}

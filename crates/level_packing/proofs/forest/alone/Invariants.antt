use Rattle.std.proofs.Common.{◌≡◌, ℕ, ◌<◌, [], ◌∷◌, map, slice_index_or, vec_len}
use Rattle.level_packing.proofs.forest.alone.Given as goal

abbrev pub invariant-loop-vertex : goal.invariant-loop-vertex
invariant-loop-vertex l = record {
  cluster_len : vec_len l.cluster ≡ l.vertex;
  members_len : vec_len l.members ≡ l.vertex;
  cluster : (v : ℕ) → v < l.vertex → slice_index_or l.cluster.items v 0 ≡ v;
  members : (v : ℕ) → v < l.vertex → slice_index_or (map (λ list. list.items) l.members.items) v [] ≡ v ∷ [];
}

use Rattle.std.proofs.Common.{ℕ, ◌^◌, ◌<◌, ◌≤◌}
use Rattle.std.specs.Prelude.{All, Contains}
use Rattle.std.specs.BinaryHeap.{heap_items}
use Rattle.st_model.specs.Network.{IsVertex}
use Rattle.few_terminals.specs.Filling.{mark_at, offer_of}
use Rattle.few_terminals.proofs.filling.Filling.of.Given as goal

abbrev pub invariant-loop-vertex : goal.invariant-loop-vertex
invariant-loop-vertex l = record {
  offered : (v : ℕ) → 1 ≤ v → v < l.vertex → (mark_at l.marks.items v).cost < 2 ^ 63 → Contains (heap_items l.queue) (offer_of (mark_at l.marks.items v).cost v);
  queued : All (λ offer. IsVertex l.vertices offer.0.1 × (offer.0.0 < 2 ^ 63)) (heap_items l.queue);
}

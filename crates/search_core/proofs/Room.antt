-- Counts stay small, since each thing that is counted is a node or a worker.
use Rattle.std.proofs.Common.{◌≡◌, ℕ, ◌+◌, ◌<◌, ◌≤◌, ◌^◌, length, get_or, arith}
use Rattle.search_core.specs.declared.worker.Worker.{Worker}
use Rattle.search_core.specs.State.{State}
use Rattle.search_core.specs.Kept.{IsCounted, undone, ups_waiting, closes_waiting}
use Rattle.search_core.proofs.WorkerLists.{total-term, count-length}

pub room_to_open : (S : State) → IsCounted S → length S.nodes < 2 ^ 63 → length S.workers < 2 ^ 63 → S.opened + 1 < 2 ^ 64
room_to_open S h nodes workers = by_parts S.opened (undone S.nodes) (ups_waiting S.workers) (closes_waiting S.workers) (length S.nodes) (length S.workers) h.opened h.bounded (count-length (λ (x : Worker). x.up) S.workers) nodes workers
  where
    by_parts : (a u p c n k : ℕ) → a ≡ u + p + c → u + c ≤ n → p ≤ k → n < 2 ^ 63 → k < 2 ^ 63 → a + 1 < 2 ^ 64
    by_parts a u p c n k e f g h l = omega arith

pub room_to_close : (S : State) (w : ℕ) → IsCounted S → length S.nodes < 2 ^ 63 → w < length S.workers → (d : Worker) → (get_or S.workers w d).closes + 1 < 2 ^ 64
room_to_close S w h nodes there d = by_parts _ (undone S.nodes) (closes_waiting S.workers) (length S.nodes) (total-term (λ (x : Worker). x.closes) S.workers w d there) h.bounded nodes
  where
    by_parts : (a u c n : ℕ) → a ≤ c → u + c ≤ n → n < 2 ^ 63 → a + 1 < 2 ^ 64
    by_parts a u c n e f g = omega arith

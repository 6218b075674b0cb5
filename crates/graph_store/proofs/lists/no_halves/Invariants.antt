use Rattle.std.proofs.Common.{◌≡◌, ℕ, [], vec_len}
use Rattle.graph_store.specs.Joined.{halves_at}
use Rattle.graph_store.proofs.lists.no_halves.Given as goal

abbrev pub invariant-loop : goal.invariant-loop
invariant-loop l = (vec_len l.lists ≡ l.counter) × ((v : ℕ) → halves_at l.lists.items v ≡ [])

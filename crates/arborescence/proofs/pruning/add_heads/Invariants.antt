use Rattle.std.proofs.Common.{◌≡◌, ℕ, ◌+◌, ◌<◌, ◌||◌, length, take}
use Rattle.std.specs.Prelude.{All}
use Rattle.st_model.specs.Led.{heads_at}
use Rattle.st_model.specs.Lists.{has}
use Rattle.arborescence.specs.Closing.{has_arc}
use Rattle.arborescence.proofs.pruning.add_heads.Given as goal

abbrev pub invariant-loop-tail : goal.invariant-loop-tail
invariant-loop-tail l = record {
  count : length l.heads ≡ l._vertices + 1;
  in_range : (u : ℕ) → All (λ v. v < l._vertices + 1) (heads_at l.heads u);
  listed : (u v : ℕ) → has (heads_at l.heads u) v ≡ (has (heads_at l.fn.heads u) v || has_arc (take l.tail-index l.arcs) u v);
}

-- A search for cheap paths from a tree. Helpers' clauses cite this, and no public one.
use Rattle.std.specs.Prelude.{◌≡◌, ℕ, ◌+◌, length, All, sum}
use Rattle.std.specs.BinaryHeap.{heap_items, heap_len}
use Rattle.st_model.specs.Network.{IsVertex}
use Rattle.tree_heuristic.specs.declared.growing.Growing.{Growing}

-- something is kept for each vertex, and what waits is of vertices
pub record IsGrowing (n : ℕ) (g : Growing) : Type 0 where
  pub best_long : length g.best.items ≡ n + 1
  pub from_long : length g.from.items ≡ n + 1
  pub joined_long : length g.joined.items ≡ n + 1
  pub come_from : All (IsVertex n) g.from.items
  pub queued : All (λ offer. IsVertex n offer.0.1) (heap_items g.queue)

-- what falls with each offer that is taken: all that the vertices were offered, and what waits
abbrev pub waiting : Growing → ℕ
waiting g = sum g.best.items + heap_len g.queue

-- The law that passes which only gave and took are still all passes of their pool.
use Rattle.std.specs.Prelude.{◌≡◌, ℕ, ◌<◌, List, length, slice_index_or}
use Rattle.node_pool.specs.Pool.{Station, SamePass, AreAllPasses}

abbrev pub PassesStayAPool : Type 0
PassesStayAPool = (before after : List Station) → AreAllPasses before → length after ≡ length before
    → ((k : ℕ) (d : Station) → k < length before → SamePass (slice_index_or before k d) (slice_index_or after k d)) → AreAllPasses after

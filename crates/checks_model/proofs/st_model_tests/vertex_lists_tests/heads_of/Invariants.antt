use Rattle.std.proofs.Common.{◌≡◌, ℕ, ◌<◌, length}
use Rattle.std.specs.Prelude.{All}
use Rattle.st_model.specs.Led.{heads_at}
use Rattle.checks_model.proofs.st_model_tests.vertex_lists_tests.heads_of.Given as goal

abbrev pub invariant-loop-tail : goal.invariant-loop-tail
invariant-loop-tail l =
    record { count : length l.heads ≡ 5; in_range : (u : ℕ) → All (λ v. v < 5) (heads_at l.heads u) }

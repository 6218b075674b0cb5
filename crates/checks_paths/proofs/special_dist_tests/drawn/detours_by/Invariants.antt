use Rattle.std.proofs.Common.{◌≡◌}
use Rattle.checks_paths.proofs.special_dist_tests.drawn.detours_by.Given as goal

abbrev pub invariant-loop-link : goal.invariant-loop-link
invariant-loop-link l = l.finder ≡ l.store.network.n

use Rattle.std.proofs.Common.{◌≡◌}
use Rattle.checks_paths.proofs.flow_cuts_tests.brute_force.stay_least.Given as goal

abbrev pub invariant-loop-turn : goal.invariant-loop-turn
invariant-loop-turn l = record {
  count : l.arcs.n ≡ 8;
  root : l.arcs.root ≡ 1;
}

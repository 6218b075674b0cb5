use Rattle.std.proofs.Common.{◌≡◌}
use Rattle.checks_digraph.proofs.bidirected_form_tests.brute_force.remove_all.Given as goal

abbrev pub invariant-loop-before : goal.invariant-loop-before
invariant-loop-before l = l.store.network.n ≡ 6

use Rattle.std.proofs.Common.{◌≡◌}
use Rattle.checks_digraph.proofs.bidirected_form_tests.brute_force.same_turns.Given as goal

abbrev pub invariant-loop-turn : goal.invariant-loop-turn
invariant-loop-turn l = l.arcs.n ≡ 6

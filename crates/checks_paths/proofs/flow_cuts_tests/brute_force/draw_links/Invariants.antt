use Rattle.std.proofs.Common.{◌*◌, ◌≤◌, All}
use Rattle.st_model.specs.Lists.{total}
use Rattle.st_model.specs.Network.{IsVertex}
use Rattle.checks_paths.proofs.flow_cuts_tests.brute_force.draw_links.Given as goal

abbrev pub invariant-loop : goal.invariant-loop
invariant-loop l = record {
  ends : All (λ link. IsVertex 8 link.a × IsVertex 8 link.b) l.drawn.items;
  costs : total (λ link. link.cost) l.drawn.items ≤ 9 * l.counter;
}

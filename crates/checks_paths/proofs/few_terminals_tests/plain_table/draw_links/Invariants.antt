use Rattle.std.proofs.Common.{◌*◌, ◌≤◌, All}
use Rattle.st_model.specs.Lists.{total}
use Rattle.st_model.specs.Network.{IsVertex}
use Rattle.checks_paths.proofs.few_terminals_tests.plain_table.draw_links.Given as goal

abbrev pub invariant-loop : goal.invariant-loop
invariant-loop l = record {
  ends : All (λ link. IsVertex 10 link.a × IsVertex 10 link.b) l.drawn.items;
  costs : total (λ link. link.cost) l.drawn.items ≤ 9 * l.counter;
}

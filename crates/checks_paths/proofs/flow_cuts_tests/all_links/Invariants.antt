use Rattle.std.proofs.Common.{◌≤◌}
use Rattle.std.specs.Prelude.{All}
use Rattle.st_model.specs.Lists.{total}
use Rattle.st_model.specs.Network.{IsVertex}
use Rattle.st_model.specs.declared.link.Link.{Link}
use Rattle.checks_paths.proofs.flow_cuts_tests.all_links.Given as goal

abbrev pub invariant-loop-place : goal.invariant-loop-place
invariant-loop-place l = record {
  ends : All (λ (l : Link). IsVertex 40 l.a × IsVertex 40 l.b) l.links.items;
  costs : total (λ (l : Link). l.cost) l.links.items ≤ l.place;
}

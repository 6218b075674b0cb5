use Rattle.std.proofs.Common.{arith, [], ◌∷◌}
use Rattle.std.proofs.lemmas.List.Elements.{All-push}
use Rattle.st_model.proofs.Sums.{total-append}
use Rattle.st_model.specs.Network.{IsVertex}
use Rattle.st_model.specs.declared.link.Link.{Link}
use Rattle.checks_paths.proofs.few_terminals_tests.plain_table.draw_links.Goals as goal

pub loop-preserved : goal.loop-preserved
loop-preserved c = record {
  ends = rw c.in_ok-push.ensures.items (All-push (λ (l : Link). IsVertex 10 l.a × IsVertex 10 l.b) c.loop.drawn.items c.draw_link.result c.loop.invariant.ends c.draw_link.ensures.ends);
  costs = rw c.in_ok-push.ensures.items (let more = total-append (λ (l : Link). l.cost) c.loop.drawn.items (c.draw_link.result ∷ []) in let one = c.draw_link.ensures.cost in let before =
      c.loop.invariant.costs in omega arith);
}

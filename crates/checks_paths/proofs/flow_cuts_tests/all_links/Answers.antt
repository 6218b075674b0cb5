use Rattle.std.proofs.Common.{arith, [], ◌∷◌, ◌≡◌, ap}
use Rattle.std.proofs.lemmas.List.Elements.{All-push}
use Rattle.st_model.proofs.Sums.{total-append}
use Rattle.st_model.specs.Network.{IsVertex}
use Rattle.st_model.specs.declared.link.Link.{Link}
use Rattle.checks_paths.proofs.flow_cuts_tests.all_links.Goals as goal

pub loop-place-preserved : goal.loop-place-preserved
loop-place-preserved c =
    let cost : c.link.result.cost ≡ 1 = ap (λ (l : Link). l.cost) c.link.ensures in
    let a = ap (λ (l : Link). l.a) c.link.ensures in
    let b = ap (λ (l : Link). l.b) c.link.ensures in
    record {
      ends = rw c.in_ok-push.ensures.items (All-push (λ (l : Link). IsVertex 40 l.a × IsVertex 40 l.b) c.loop-place.links.items c.link.result c.loop-place.invariant.ends
          (rw (a, b) ((omega arith, omega arith), (omega arith, omega arith))));
      costs = rw c.in_ok-push.ensures.items (let more = total-append (λ (l : Link). l.cost) c.loop-place.links.items (c.link.result ∷ []) in let before = c.loop-place.invariant.costs in
          omega arith);
    }

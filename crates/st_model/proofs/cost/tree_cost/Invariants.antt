use Rattle.std.proofs.Common.{◌≡◌, [], ◌∷◌, take, drop}
use Rattle.st_model.specs.Arborescence.{Grows, arc_cost, missed, reached_from}
use Rattle.st_model.specs.Lists.{sum_to, total}
use Rattle.st_model.proofs.cost.tree_cost.Given as goal

-- what the arcs so far cost and miss, and the rest still grows
abbrev pub invariant-loop-tail : goal.invariant-loop-tail
invariant-loop-tail l =
    let so_far = reached_from (l.tree.start ∷ []) (take l.tail-index l.tail-items) in
    record {
      links : l.links ≡ total (arc_cost l.instance) (take l.tail-index l.tail-items);
      missed : l.missed ≡ sum_to (missed l.instance so_far) l.instance.n;
      grows : Grows l.instance so_far (drop l.tail-index l.tail-items);
    }

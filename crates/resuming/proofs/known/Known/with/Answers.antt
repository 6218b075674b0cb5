use Rattle.std.proofs.Common.{◌∙◌, Some, ap, arith, inr, refl, sym}
use Rattle.st_model.specs.Arborescence.{cost}
use Rattle.resuming.proofs.known.Known.with.Goals as goal

pub returns-clause-tree : goal.returns-clause-tree
returns-clause-tree c =
    let same = sym c.in_ok-tree.ensures in
    inr (record {
      segment = c.args.segment.now;
      found = c.in_ok-tree.tree;
      among = (0, omega arith, refl);
      best = c.in-Some.is ∙ ap Some same;
      kept = refl;
      cost_is = c.tree_cost-cost.ensures ∙ ap (cost c.args.instance.now) same;
    })

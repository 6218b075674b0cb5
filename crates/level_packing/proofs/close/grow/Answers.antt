use Rattle.std.proofs.Common.{subst, arith}
use Rattle.level_packing.specs.Forest.{groups}
use Rattle.level_packing.specs.Growing.{IsAlone}
use Rattle.level_packing.proofs.Counted.{alone_counted}
use Rattle.level_packing.proofs.Ending.{alone_forest}
use Rattle.level_packing.proofs.close.grow.Goals as goal

pub loop-at-init : goal.loop-at-init
loop-at-init c =
    let alone = subst (λ n. IsAlone n (groups c.in_ok-forest.forest)) c.vertices.ensures.count c.in_ok-forest.ensures in
    (0, alone_forest c.args.instance.now c.args.branch.now c.args.root c.args.links.now (groups c.in_ok-forest.forest) c.requires.root alone c.requires.complete, λ k d within. omega arith, alone_counted c.args.instance.now.n (groups c.in_ok-forest.forest) alone)

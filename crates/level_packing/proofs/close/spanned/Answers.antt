use Rattle.level_packing.specs.Forest.{cluster_of, groups}
use Rattle.level_packing.proofs.Counted.{few_cuts}
use Rattle.level_packing.proofs.Ending.{all_connected, all_fit, spans, weighs}
use Rattle.level_packing.proofs.close.spanned.Goals as goal

pub thin-requires-clause-connected : goal.thin-requires-clause-connected
thin-requires-clause-connected c = rw c.deref.ensures.value (all_connected c.args.instance.now c.args.branch.now c.args.root _ (groups c.args.forest) c.requires.instance c.requires.left c.requires.certain c.requires.grown.1 c.requires.one)

pub returns-clause-closed : goal.returns-clause-closed
returns-clause-closed c =
    let I = c.args.instance.now in
    let B = c.args.branch.now in
    let F = groups c.args.forest in
    let made = rw c.deref.ensures.value at c.in_ok-tree.ensures.made in
    let ends = rw c.deref.ensures.value at c.in_ok-tree.ensures.reached in
    rw c.of.ensures (
      spans I B c.args.root _ F c.requires.instance c.requires.left c.requires.certain c.requires.grown.1 c.requires.one c.in_ok-tree.tree c.in_ok-tree.ensures.start c.in_ok-tree.ensures.arborescence made ends,
      all_fit I B c.args.root _ F c.requires.instance c.requires.left c.requires.certain c.requires.grown.1 c.requires.one,
      weighs I B c.args.root _ F c.requires.instance c.requires.left c.requires.certain c.requires.grown.1 c.requires.one c.in_ok-tree.tree c.in_ok-tree.ensures.start c.in_ok-tree.ensures.arborescence made ends,
    )

pub returns-clause-sets : goal.returns-clause-sets
returns-clause-sets c = rw c.of.ensures c.requires.grown.1.levels.sets

pub returns-clause-few : goal.returns-clause-few
returns-clause-few c =
    let F = groups c.args.forest in
    let forest = c.requires.grown.1 in
    let own = forest.clusters.own c.args.root forest.rooted in
    let settled = forest.clusters.settled c.args.root forest.rooted in
    let filled = (forest.clusters.members (cluster_of F c.args.root) (cluster_of F c.args.root) own settled).1 (own, settled) in
    rw c.of.ensures (few_cuts c.args.instance.now.n F (cluster_of F c.args.root) filled c.requires.grown.3)

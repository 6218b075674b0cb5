use Rattle.std.proofs.Common.{◌++◌}
use Rattle.arborescence.proofs.Listing.{walk_misses, walk_spans, some_weaker, none_weaker}
use Rattle.arborescence.proofs.pruning.missed.Goals as goal

pub returns-clause-found : goal.returns-clause-found
returns-clause-found c =
    let D = c.args.instance.now in
    let arcs = c.args.left.now ++ c.args.kept.now in
    let heads = rw c.vertices.ensures.count at c.in_ok-heads.ensures in
    let led = rw c.root.ensures.root at c.in_ok-reached.ensures in
    some_weaker c.first_apart-apart.result _ _ (λ v h. walk_misses D.n c.args.branch.now D.root arcs c.in_ok-heads.heads c.in_ok-reached.reached.members v heads led h.0 h.1 h.2) c.first_apart-apart.ensures.found

pub returns-clause-none : goal.returns-clause-none
returns-clause-none c =
    let D = c.args.instance.now in
    let arcs = c.args.left.now ++ c.args.kept.now in
    let heads = rw c.vertices.ensures.count at c.in_ok-heads.ensures in
    let led = rw c.root.ensures.root at c.in_ok-reached.ensures in
    none_weaker c.first_apart-apart.result _ _ (λ all. walk_spans D.n c.args.branch.now D.root arcs c.in_ok-heads.heads c.in_ok-reached.reached.members heads led all) c.first_apart-apart.ensures.none

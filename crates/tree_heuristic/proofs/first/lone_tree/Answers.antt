use Rattle.std.proofs.Common.{refl}
use Rattle.tree_heuristic.proofs.Found.{alone_tree, start_may_join, dearer_alone}
use Rattle.tree_heuristic.proofs.first.lone_tree.Goals as goal

pub returns-in_err-start-clause-none : goal.returns-in_err-start-clause-none
returns-in_err-start-clause-none c = rw c.from_residual.ensures (λ t tree reaches present.
    let start = start_may_join c.args.store.now c.args.branch.now c.args.branch.now.outside t c.dearest.ensures.graph (λ v vertex. refl) reaches present in
    c.in_err-start.ensures.none t.start start.0 start.1)

pub returns-clause-tree : goal.returns-clause-tree
returns-clause-tree c =
    let start = c.in_ok-start.ensures.some in
    rw (c.of.ensures, c.new.ensures.items) (alone_tree c.args.store.now c.args.branch.now c.args.branch.now.outside c.in_ok-start.start c.dearest.ensures.graph c.requires.branch (λ v vertex. refl) c.requires.uncertain start.0 start.1)

pub returns-clause-lone : goal.returns-clause-lone
returns-clause-lone c s none reaches present =
    let start = c.in_ok-start.ensures.some in
    let other = start_may_join c.args.store.now c.args.branch.now c.args.branch.now.outside s c.dearest.ensures.graph (λ v vertex. refl) reaches present in
    dearer_alone c.args.store.now.network s (record { start = c.in_ok-start.start; arcs = c.of.result }) c.lone_starts_miss_the_rest.ensures other.0 start.0 none (rw (c.of.ensures) c.new.ensures.items) (c.in_ok-start.ensures.most s.start other.0 other.1)

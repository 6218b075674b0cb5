use Rattle.dual_ascent.proofs.Extended.{charged_root, charged_start}
use Rattle.checks_ascent.proofs.dual_ascent_tests.freeing.leaves_as_anew.Goals as goal

pub left_by-requires-clause-start : goal.left_by-requires-clause-start
left_by-requires-clause-start c = charged_start _ _ _ _ _ c.in_ok-kept.ensures.charged c.in_ok-kept.ensures.sets

pub left_by-requires-clause-root : goal.left_by-requires-clause-root
left_by-requires-clause-root c =
    let h = c.in_ok-kept.ensures.charged in
    rw c.root.ensures.root (charged_root _ _ _ _ _ h (rw h.left.count at c.root.ensures.digraph.root))

use Rattle.std.proofs.Common.{◌∙◌, ◌+◌, ◌∷◌, [], ℕ, ap}
use Rattle.dual_ascent.proofs.Reaching.{growth_start}
use Rattle.dual_ascent.proofs.growing.Growth.start.Goals as goal

pub returns-clause-growth : goal.returns-clause-growth
returns-clause-growth c =
    let places = ap (λ (n : ℕ). n + 1) c.vertices.ensures.count in
    growth_start c.args.arcs.now _ (c.in_ok-set.ensures.count ∙ places) c.in_ok-set.ensures.empty (c.in_ok-insert.ensures.count ∙ c.in_ok-reached.ensures.count ∙ places) (c.in_ok-leads.ensures.0) (rw c.in_ok-reached.ensures.empty at c.in_ok-insert.ensures.members ∙ ap (λ (r : ℕ). r ∷ []) c.root.ensures.root)

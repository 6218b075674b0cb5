use Rattle.std.proofs.Common.{ℕ, List, [], ◌∷◌, ◌++◌, map, ap, ◌∙◌}
use Rattle.st_model.specs.Lists.{has}
use Rattle.local_search.proofs.Reached.{has-heads}
use Rattle.local_search.proofs.judging.reached_list.Goals as goal

pub returns : goal.returns
returns c =
    let first : List ℕ = c.args.tree.now.start ∷ [] in
    let heads = c.in_ok-list.ensures ∙ ap (λ (arcs : List (ℕ × ℕ)). map (λ arc. arc.1) arcs) c.as_slice.ensures in
    λ v. ap (λ (xs : List ℕ). has xs v) (c.in_ok-push.ensures.items ∙ ap (λ (xs : List ℕ). xs ++ first) heads) ∙ has-heads first c.args.tree.now.arcs v

use Rattle.std.proofs.Common.{ℕ, ◌+◌, ◌-◌, ◌^◌, List, [], ◌∷◌, ◌++◌, replicate, ap, ◌∙◌}
use Rattle.twice_tree.proofs.Joined.{joining_first}
use Rattle.twice_tree.proofs.joining.Joining.at.Goals as goal

pub returns : goal.returns
returns c =
    joining_first c.args.store.now.network c.args.cells.now c.args.first c.in_ok-laid.laid c.in_ok-opening.opening c.open.new.self c.requires.cells.instance c.requires.first c.in_ok-laid.ensures.laid c.in_ok-laid.ensures.reached c.in_ok-laid.ensures.free
    c.in_ok-opening.ensures.offers (c.in_ok-opening.ensures.least ∙ ap (λ (n : ℕ). replicate (n + 1) (2 ^ 64 - 1)) c.vertices-2.ensures.count) c.open.ensures.laid
    (c.in_ok-open.ensures.joined ∙ ap (λ (members : List ℕ). members ++ c.args.first ∷ []) c.in_ok-joined.ensures.empty) (c.open.ensures.count ∙ (c.in_ok-joined.ensures.count ∙ ap (λ (n : ℕ). n + 1) c.vertices.ensures.count)) c.in_ok-open.ensures.opens

use Rattle.std.proofs.Common.{◌≡◌, ◌∙◌, ap, sym, refl, ◌++◌, ℕ, Bool, true, false, List, [], ◌∷◌, cond, filter, not, ◌+◌}
use Rattle.st_model.specs.Lists.{up_to}
use Rattle.graph_store.specs.Graph.{is_in}
use Rattle.lift_back.proofs.Counting.{passing_more}
use Rattle.lift_back.proofs.rest.Rest.gone_vertices.Goals as goal

pub loop-before-preserved : goal.loop-before-preserved
loop-before-preserved c =
    let k = c.loop-before.before in
    let store = c.args.self.now.store in
    c.in_ok-push_gone.ensures ∙ (ap (λ (l : List ℕ). l ++ cond (is_in store (k + 1)) [] ((k + 1) ∷ [])) c.loop-before.invariant ∙ (ap (λ (l : List ℕ). filter (λ v. not (is_in store v)) (up_to k) ++ l) (turned (is_in store (k + 1)) ((k + 1) ∷ [])) ∙ sym (passing_more (λ v. not (is_in store v)) k)))
  where
    turned : (b : Bool) (xs : List ℕ) → cond b [] xs ≡ cond (not b) xs []
    turned true xs = refl
    turned false xs = refl

-- What is known of trees as the segments of a search are looked at.
use Rattle.std.proofs.Common.{◌≡◌, ℕ, zero, suc, ◌+◌, ◌<◌, inl, inr, List, [], ◌∷◌, length, drop, Option, sym, ap, ◌∙◌, subst, slice_index_or, arith}
use Rattle.std.specs.Prelude.{Contains}
use Rattle.std.proofs.Math.Seq.{drop-cons}
use Rattle.st_model.specs.declared.tree.Tree.{Tree}
use Rattle.st_model.specs.Network.{Network}
use Rattle.search_core.specs.declared.gathered.Segment.{Segment}
use Rattle.search_core.specs.Complete.{least_found, less_found}
use Rattle.search_core.proofs.LeastFound.{least_found-less}
use Rattle.resuming.specs.Finding.{IsKept}

-- the least of what is left to look at, once one more segment was
pub least_more : (I : Network) (old new : ℕ) (segments : List Segment) (k : ℕ) (s : Segment) (least : ℕ) → k < length segments → s ≡ slice_index_or segments k s
    → new ≡ less_found I s.best old → least_found I old (drop k segments) ≡ least → least_found I new (drop (k + 1) segments) ≡ least
least_more I old new segments k s least within is less before =
    let next : k + 1 ≡ suc k = omega arith in
    let cut : drop k segments ≡ s ∷ drop (k + 1) segments = rw next (drop-cons segments k s within ∙ ap (λ (t : Segment). t ∷ drop (suc k) segments) (sym is)) in
    let there : least_found I old (s ∷ drop (k + 1) segments) ≡ least = subst (λ (ss : List Segment). least_found I old ss ≡ least) cut before in
    ap (λ (x : ℕ). least_found I x (drop (k + 1) segments)) less ∙ least_found-less I s.best old (drop (k + 1) segments) ∙ there

-- what one segment keeps, all of them keep
pub kept_more : (I : Network) (segments : List Segment) (k : ℕ) (s : Segment) (least old new : ℕ) (tree old_tree new_tree : Option Tree) → k < length segments → s ≡ slice_index_or segments k s
    → IsKept I segments least tree old old_tree → IsKept I (s ∷ []) old old_tree new new_tree → IsKept I segments least tree new new_tree
kept_more I segments k s least old new tree old_tree new_tree within is before (inr f) =
    let mine : f.segment ≡ s = only f.among in
    inr (record { segment = s; found = f.found; among = (k, within, sym is); best = ap (λ (t : Segment). t.best) (sym mine) ∙ f.best; kept = f.kept; cost_is = f.cost_is })
  where
    only : {t : Segment} → Contains (s ∷ []) t → t ≡ s
    only (zero, low, e) = sym e
    only (suc j, low, e) = absurd (omega arith)
kept_more I segments k s least old new tree old_tree new_tree within is (inl same) (inl again) = inl (again.0 ∙ same.0, again.1 ∙ same.1)
kept_more I segments k s least old new tree old_tree new_tree within is (inr f) (inl again) =
    inr (record { segment = f.segment; found = f.found; among = f.among; best = f.best; kept = again.1 ∙ f.kept; cost_is = again.0 ∙ f.cost_is })

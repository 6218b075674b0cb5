-- The cheapest of a tree and those that workers found.
use Rattle.std.proofs.Common.{◌≡◌, ℕ, suc, ◌+◌, ◌<◌, List, ◌∷◌, length, drop, ap, sym, ◌∙◌, subst, slice_index_or, arith}
use Rattle.std.proofs.Math.Seq.{drop-cons}
use Rattle.st_model.specs.declared.tree.Tree.{Tree}
use Rattle.st_model.specs.Network.{Network}
use Rattle.st_model.specs.Arborescence.{cost}
use Rattle.search_core.specs.declared.gathered.Segment.{Segment}
use Rattle.search_core.specs.Complete.{least_found, less_found}
use Rattle.search_core.proofs.LeastFound.{least_found-less}

-- what is found with the segments that are left, once one more is looked at
pub one_more : (I : Network) (first new : Tree) (segments : List Segment) (k : ℕ) (s : Segment) (least : ℕ) → k < length segments → s ≡ slice_index_or segments k s
    → cost I new ≡ less_found I s.best (cost I first) → least_found I (cost I first) (drop k segments) ≡ least → least_found I (cost I new) (drop (k + 1) segments) ≡ least
one_more I first new segments k s least within is cheaper before =
    let next : k + 1 ≡ suc k = omega arith in
    let cut : drop k segments ≡ s ∷ drop (k + 1) segments = rw next (drop-cons segments k s within ∙ ap (λ (t : Segment). t ∷ drop (suc k) segments) (sym is)) in
    let there : least_found I (cost I first) (s ∷ drop (k + 1) segments) ≡ least = subst (λ (ss : List Segment). least_found I (cost I first) ss ≡ least) cut before in
    ap (λ (x : ℕ). least_found I x (drop (k + 1) segments)) cheaper ∙ least_found-less I s.best (cost I first) (drop (k + 1) segments) ∙ there

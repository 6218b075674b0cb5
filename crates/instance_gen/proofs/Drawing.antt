-- One more link, exchange or need in what is drawn.
use Rattle.std.proofs.Common.{◌≡◌, ℕ, suc, ◌+◌, ◌%◌, ◌<◌, List, [], ◌∷◌, ◌++◌, length, get_or, drop, refl, sym, ap, ◌∙◌, append_assoc, add-one}
use Rattle.std.proofs.Math.Seq.{drop-cons}
use Rattle.st_model.specs.declared.need.Need.{Need}
use Rattle.st_model.specs.declared.need.Need.TheVariants.{Pays}
use Rattle.st_model.specs.Lists.{up_to}
use Rattle.instance_gen.specs.Generated.{next, Drawn, with_tree_link, with_further_link, tree_links, further_links, Shuffled, with_exchange, exchanges, all_paying}

pub up_to_more : (k : ℕ) (list : List ℕ) → list ≡ up_to k → list ++ (k + 1) ∷ [] ≡ up_to (k + 1)
up_to_more k list e = rw (e, add-one k) refl

pub tree_more : (seed k : ℕ) (d after : Drawn) → d ≡ tree_links seed k → after ≡ with_tree_link (k + 2) d → after ≡ tree_links seed (k + 1)
tree_more seed k d after e step = rw (add-one k) (step ∙ ap (with_tree_link (k + 2)) e)

pub further_more : (n k : ℕ) (first d after : Drawn) → d ≡ further_links n first k → after ≡ with_further_link n d → after ≡ further_links n first (k + 1)
further_more n k first d after e step = rw (add-one k) (step ∙ ap (with_further_link n) e)

pub exchange_more : (n k : ℕ) (first s after : Shuffled) → s ≡ exchanges n first k → after ≡ with_exchange n s k → after ≡ exchanges n first (k + 1)
exchange_more n k first s after e step = rw (add-one k) (step ∙ ap (λ t. with_exchange n t k) e)

-- what is left to pay, with one more that has paid
pub paying_more : (chosen : List ℕ) (k last first : ℕ) (needs : List (ℕ × Need)) → k < length chosen → needs ++ all_paying last (drop k chosen) ≡ all_paying first chosen
    → (needs ++ (get_or chosen k 0, Pays (1 + next last % 100)) ∷ []) ++ all_paying (next last) (drop (k + 1) chosen) ≡ all_paying first chosen
paying_more chosen k last first needs within e =
    let rest : drop k chosen ≡ get_or chosen k 0 ∷ drop (suc k) chosen = drop-cons chosen k 0 within in
    rw (add-one k) (append_assoc needs _ _ ∙ ap (λ vs. needs ++ all_paying last vs) (sym rest) ∙ e)

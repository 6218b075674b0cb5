-- Offers that wait, and where each path comes from.
use Rattle.std.proofs.Common.{◌≡◌, ℕ, List, [], ◌∷◌, length, get_or, set, replicate, sym, ap, subst, ◌∙◌, length-set, arith}
use Rattle.std.proofs.lemmas.List.{length-replicate, get_or-replicate}
use Rattle.std.specs.Prelude.{All, IsPermutation}
use Rattle.std.specs.declared.cmp.Reverse.{Reverse}
use Rattle.std.proofs.lemmas.List.Elements.{All-cons, All-nil, All-tail}
use Rattle.std.proofs.lemmas.List.Sorted.{All-permutation}
use Rattle.st_model.specs.Network.{IsVertex}

abbrev pub IsQueued : ℕ → Reverse (ℕ × ℕ) → Type 0
IsQueued n offer = IsVertex n offer.0.1

pub queued_push : (n : ℕ) (old new : List (Reverse (ℕ × ℕ))) (offer : Reverse (ℕ × ℕ)) → IsPermutation (offer ∷ old) new → IsQueued n offer → All (IsQueued n) old → All (IsQueued n) new
queued_push n old new offer moved vertex all = All-permutation (IsQueued n) (offer ∷ old) new moved (All-cons (IsQueued n) offer old vertex all)

pub queued_pop : (n : ℕ) (old new : List (Reverse (ℕ × ℕ))) (offer : Reverse (ℕ × ℕ)) → IsPermutation old (offer ∷ new) → All (IsQueued n) old → All (IsQueued n) new
queued_pop n old new offer moved all = All-tail (IsQueued n) offer new (All-permutation (IsQueued n) old (offer ∷ new) moved all)

pub first_queued : (n : ℕ) (old new : List (Reverse (ℕ × ℕ))) (offer : Reverse (ℕ × ℕ)) → old ≡ [] → IsPermutation (offer ∷ old) new → IsQueued n offer → All (IsQueued n) new
first_queued n old new offer none moved vertex = queued_push n old new offer moved vertex (subst (All (IsQueued n)) (sym none) (All-nil (IsQueued n)))

pub all_from : (n start count : ℕ) (xs : List ℕ) → xs ≡ replicate count start → IsVertex n start → All (IsVertex n) xs
all_from n start count xs is vertex k d within =
    let long = ap length is ∙ length-replicate count start in
    subst (IsVertex n) (sym (ap (λ l. get_or l k d) is ∙ get_or-replicate count k start d (omega arith))) vertex

pub long_set : {X : Type 0} (xs : List X) (count i : ℕ) (x y : X) → xs ≡ replicate count x → length (set xs i y) ≡ count
long_set xs count i x y is = length-set xs i y ∙ (ap length is ∙ length-replicate count x)

-- Membership of lists, as a test.
use Rattle.std.proofs.Common.{◌≡◌, ◌≢◌, ℕ, zero, suc, ◌+◌, ◌<◌, Bool, true, false, ◌||◌, cond, eqb, List, [], ◌∷◌, length, get_or, set, take, refl, sym, subst, ◌∙◌, ◌⊎◌, inl, inr, arith}
use Rattle.std.specs.Prelude.{All, Any, IsTrue, IsPermutation}
use Rattle.std.specs.List.{dedup}
use Rattle.std.proofs.Math.Bool.{or-true, or-false}
use Rattle.std.proofs.lemmas.Bool.{or_right}
use Rattle.std.proofs.lemmas.List.{get_or-set_same, get_or-set_other}
use Rattle.std.proofs.lemmas.List.Kept.{Contains-dedup_nat, Contains-from_dedup}
use Rattle.std.proofs.lemmas.List.Sorted.{Contains-permutation, IsPermutation-sym}
use Rattle.std.proofs.lemmas.Bool.Decides.{nat_tests}
use Rattle.std.proofs.lemmas.List.Elements.{All-cons, All-nil}
use Rattle.st_model.specs.Lists.{has}
use Rattle.st_model.proofs.Marked.{has_more}
use Rattle.st_model.proofs.Members.{has_same}

-- what holds of each member holds of all
pub All-from_has : (P : ℕ → Type 0) (xs : List ℕ) → ((v : ℕ) → IsTrue (has xs v) → P v) → All P xs
All-from_has P [] h = All-nil P
All-from_has P (x ∷ xs) h =
    let self : eqb x x ≡ true = grind (arith, nat_tests) in
    All-cons P x xs (h x (rw self refl)) (All-from_has P xs (λ v in_rest. h v (or_right (eqb x v) _ in_rest)))

-- some element is the first, or one of the rest
pub any_first : {X : Type 0} (P : X → Type 0) (x : X) (xs : List X) → Any P (x ∷ xs) → P x ⊎ Any P xs
any_first P x xs (zero, y, within, at, h) = inl (subst P (sym at) h)
any_first P x xs (suc k, y, within, at, h) = inr (k, y, omega arith, at, h)

-- what holds of all holds of some element
pub any_with : {X : Type 0} (P Q : X → Type 0) (xs : List X) → Any P xs → All Q xs → (x : X) × P x × Q x
any_with P Q xs (k, y, within, at, h) all = (y, h, subst Q at (all k y within))

-- a sorted list without repeats
pub ascending_members : (xs ys zs : List ℕ) → IsPermutation xs ys → zs ≡ dedup eqb ys → (v : ℕ) → has zs v ≡ has xs v
ascending_members xs ys zs moved kept = has_same zs xs (λ v. (
  λ there. Contains-permutation ys xs v (IsPermutation-sym xs ys moved) (Contains-from_dedup eqb ys v (rw kept at there)),
  λ there. rw kept (Contains-dedup_nat ys v (Contains-permutation xs ys v moved there)),
))

-- one more vertex gets the name
pub relabel_more : (cluster vertices : List ℕ) (i v name old : ℕ) → i < length vertices → v < length cluster → get_or cluster v 0 ≡ cond (has (take i vertices) v) name old → get_or (set cluster (get_or vertices i 0) name) v 0 ≡ cond (has (take (i + 1) vertices) v) name old
relabel_more cluster vertices i v name old within short before = rw (has_more vertices i v within) (by_case (eqb (get_or vertices i 0) v) refl)
  where
    by_case : (b : Bool) → eqb (get_or vertices i 0) v ≡ b → get_or (set cluster (get_or vertices i 0) name) v 0 ≡ cond (has (take i vertices) v || b) name old
    by_case true is =
        let here : get_or vertices i 0 ≡ v = grind (arith, nat_tests) in
        rw (here, or-true (has (take i vertices) v)) (get_or-set_same cluster v name 0 short)
    by_case false is =
        let other : v ≢ get_or vertices i 0 = grind (arith, nat_tests) in
        rw (or-false (has (take i vertices) v)) (get_or-set_other cluster (get_or vertices i 0) v name 0 other ∙ before)

-- the member of a list of one
pub itself : (i : ℕ) → has (i ∷ []) i ≡ true
itself i = grind (arith, nat_tests)

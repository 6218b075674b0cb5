-- A vertex put into its place in a list, and taken out of it again.
use Rattle.std.proofs.Common.{◌≡◌, ℕ, ◌+◌, ◌-◌, ◌≤◌, Bool, true, false, cond, not, List, [], ◌∷◌, ◌++◌, length, take, refl, ap, ◌∙◌, arith, one-add, length-append}
use Rattle.std.proofs.Math.Seq.{take-append_seam}
use Rattle.std.specs.Prelude.{nat_lt}
use Rattle.std.specs.List.{insert, remove}
use Rattle.std.proofs.lemmas.Grind.{common_steps}
use Rattle.std.proofs.lemmas.Bool.Decides.{nat_tests}
use Rattle.st_model.specs.Branch.{joined, with_vertex}
use Rattle.st_model.specs.Lists.{has}
use Rattle.cert_checker.specs.Path.{place_of, without, without_new, without_last}

-- the list with a vertex is what inserting makes
pub with_vertex-insert : (xs : List ℕ) (v : ℕ) → with_vertex xs v ≡ insert xs (place_of xs v) v
with_vertex-insert [] v = refl
with_vertex-insert (x ∷ xs) v = at (nat_lt x v) (with_vertex-insert xs v)
  where
    at : (b : Bool) → with_vertex xs v ≡ insert xs (place_of xs v) v → cond b (x ∷ with_vertex xs v) (v ∷ x ∷ xs) ≡ insert (x ∷ xs) (cond b (1 + place_of xs v) 0) v
    at true before = rw (one-add) (ap (λ (r : List ℕ). x ∷ r) before)
    at false before = refl

-- the list without it is what removing makes, or the list
pub without-remove : (xs : List ℕ) (v : ℕ) → without xs v ≡ remove xs (place_of xs v)
without-remove [] v = refl
without-remove (x ∷ xs) v = at (nat_lt x v) (without-remove xs v)
  where
    at : (b : Bool) → without xs v ≡ remove xs (place_of xs v) → cond b (x ∷ without xs v) xs ≡ remove (x ∷ xs) (cond b (1 + place_of xs v) 0)
    at true before = rw (one-add) (ap (λ (r : List ℕ). x ∷ r) before)
    at false before = refl

-- what was put in is taken out
pub without-with_vertex : (xs : List ℕ) (v : ℕ) → without (with_vertex xs v) v ≡ xs
without-with_vertex [] v = at (nat_lt v v) refl
  where
    at : (b : Bool) → nat_lt v v ≡ b → cond b (v ∷ []) [] ≡ []
    at true e = absurd (grind (arith, nat_tests, e))
    at false e = refl
without-with_vertex (x ∷ xs) v = at (nat_lt x v) refl (nat_lt v v) refl (without-with_vertex xs v)
  where
    at : (b : Bool) → nat_lt x v ≡ b → (c : Bool) → nat_lt v v ≡ c → without (with_vertex xs v) v ≡ xs → without (cond b (x ∷ with_vertex xs v) (v ∷ x ∷ xs)) v ≡ x ∷ xs
    at true e c f before = rw e (ap (λ (r : List ℕ). x ∷ r) before)
    at false e true f before = absurd (grind (arith, nat_tests, f))
    at false e false f before = rw f refl

-- and so is what was put in once, where it was new
pub without_new-joined : (xs : List ℕ) (v : ℕ) (came : Bool) → came ≡ not (has xs v) → without_new (joined xs v) v came ≡ xs
without_new-joined xs v came told = rw told (at (has xs v))
  where
    at : (b : Bool) → without_new (cond b xs (with_vertex xs v)) v (not b) ≡ xs
    at true = refl
    at false = without-with_vertex xs v

-- a pair put at the end is taken off
pub without_last-push : (ps : List (ℕ × ℕ)) (p : ℕ × ℕ) → without_last (ps ++ p ∷ []) ≡ ps
without_last-push ps p = ap (λ n. take n (ps ++ p ∷ [])) count ∙ take-append_seam ps (p ∷ [])
  where
    count : length (ps ++ p ∷ []) - 1 ≡ length ps
    count = omega (arith, length-append ps (p ∷ []))

-- nothing stands past the end
pub remove_past : (xs : List ℕ) (i : ℕ) → length xs ≤ i → remove xs i ≡ xs
remove_past xs i h = grind (arith, common_steps)

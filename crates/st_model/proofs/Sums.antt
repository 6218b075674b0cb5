-- Sums over lists and over the vertices 1 to n.
use Rattle.std.proofs.Common.{◌≡◌, ℕ, zero, suc, ◌+◌, ◌<◌, ◌≤◌, Bool, true, false, cond, eqb, List, [], ◌∷◌, ◌++◌, length, get_or, map, refl, ◌∙◌, ◌⊎◌, inl, inr, arith, length-append}
use Rattle.std.proofs.lemmas.Bool.{cases_lt}
use Rattle.std.proofs.lemmas.List.{length-map, map-append, get_or_append_left, get_or-append_right}
use Rattle.std.specs.Prelude.{filter}
use Rattle.std.proofs.lemmas.Bool.Decides.{nat_tests}
use Rattle.st_model.specs.Lists.{total, sum_to, up_to}

pub total-append : {X : Type 0} (f : X → ℕ) (xs ys : List X) → total f (xs ++ ys) ≡ total f xs + total f ys
total-append f [] ys = omega arith
total-append f (x ∷ xs) ys = omega (arith, total-append f xs ys)

pub total_filter_le : {X : Type 0} (f : X → ℕ) (p : X → Bool) (xs : List X) → total f (filter p xs) ≤ total f xs
total_filter_le f p [] = omega arith
total_filter_le f p (x ∷ xs) = kept (p x) (total_filter_le f p xs)
  where
    kept : (b : Bool) → total f (filter p xs) ≤ total f xs → total f (cond b (x ∷ filter p xs) (filter p xs)) ≤ f x + total f xs
    kept true h = omega arith
    kept false h = omega arith

-- sums of what agrees on 1 to n
pub sum_to_same : (f g : ℕ → ℕ) (n : ℕ) → ((v : ℕ) → 1 ≤ v → v ≤ n → f v ≡ g v) → sum_to f n ≡ sum_to g n
sum_to_same f g zero same = refl
sum_to_same f g (suc n) same = omega (arith, sum_to_same f g n (λ v low high. same v low (omega arith)), same (suc n) (omega arith) (omega arith))

pub sum_to_le : (f g : ℕ → ℕ) (n : ℕ) → ((v : ℕ) → 1 ≤ v → v ≤ n → f v ≤ g v) → sum_to f n ≤ sum_to g n
sum_to_le f g zero below = omega arith
sum_to_le f g (suc n) below = omega (arith, sum_to_le f g n (λ v low high. below v low (omega arith)), below (suc n) (omega arith) (omega arith))

pub sum_to-add : (f g : ℕ → ℕ) (n : ℕ) → sum_to (λ v. f v + g v) n ≡ sum_to f n + sum_to g n
sum_to-add f g zero = refl
sum_to-add f g (suc n) = omega (arith, sum_to-add f g n)

pub sum_to_none : (n : ℕ) → sum_to (λ _. 0) n ≡ 0
sum_to_none zero = refl
sum_to_none (suc n) = omega (arith, sum_to_none n)

-- what stands at one place alone is counted there
pub sum_to_one : (w c n : ℕ) → 1 ≤ w → w ≤ n → sum_to (λ v. cond (eqb w v) c 0) n ≡ c
sum_to_one w c zero low high = absurd (omega arith)
sum_to_one w c (suc n) low high = at (eqb w (suc n)) refl (λ below. sum_to_one w c n low below)
  where
    at : (b : Bool) → eqb w (suc n) ≡ b → (w ≤ n → sum_to (λ v. cond (eqb w v) c 0) n ≡ c) → sum_to (λ v. cond (eqb w v) c 0) n + cond b c 0 ≡ c
    at true is rest =
        let here : w ≡ suc n = grind (arith, nat_tests) in
        let before : sum_to (λ v. cond (eqb w v) c 0) n ≡ 0 = sum_to_same (λ v. cond (eqb w v) c 0) (λ _. 0) n (λ v l h. let other : eqb w v ≡ false = grind (arith, nat_tests) in rw other refl) ∙ sum_to_none n in
        omega (arith, before)
    at false is rest =
        let below : w ≤ n = grind (arith, nat_tests) in
        omega (arith, rest below)

pub sum_to_at_most : (w c n : ℕ) → sum_to (λ v. cond (eqb w v) c 0) n ≤ c
sum_to_at_most w c zero = omega arith
sum_to_at_most w c (suc n) = at (eqb w (suc n)) refl (sum_to_at_most w c n)
  where
    at : (b : Bool) → eqb w (suc n) ≡ b → sum_to (λ v. cond (eqb w v) c 0) n ≤ c → sum_to (λ v. cond (eqb w v) c 0) n + cond b c 0 ≤ c
    at true is rest =
        let here : w ≡ suc n = grind (arith, nat_tests) in
        let before : sum_to (λ v. cond (eqb w v) c 0) n ≡ 0 = sum_to_same (λ v. cond (eqb w v) c 0) (λ _. 0) n (λ v l h. let other : eqb w v ≡ false = grind (arith, nat_tests) in rw other refl) ∙ sum_to_none n in
        omega (arith, before)
    at false is rest = omega arith

pub length-up_to : (n : ℕ) → length (up_to n) ≡ n
length-up_to zero = refl
length-up_to (suc n) = grind (arith, length-append (up_to n) (suc n ∷ []), length-up_to n)

-- f at each vertex, by its place
pub get_or-up_to : {X : Type 0} (f : ℕ → X) (n k : ℕ) (d : X) → k < n → get_or (map f (up_to n)) k d ≡ f (k + 1)
get_or-up_to f zero k d h = absurd (omega arith)
get_or-up_to f (suc n) k d h = rw map-append (by_case (cases_lt k n) (λ below. get_or-up_to f n k d below))
  where
    front : length (map f (up_to n)) ≡ n
    front = length-map (up_to n) f ∙ length-up_to n

    by_case : (k < n) ⊎ (n ≤ k) → (k < n → get_or (map f (up_to n)) k d ≡ f (k + 1)) → get_or (map f (up_to n) ++ f (suc n) ∷ []) k d ≡ f (k + 1)
    by_case (inl below) rest = get_or_append_left _ _ d k (omega (arith, front)) ∙ rest below
    by_case (inr above) rest =
        let here : k ≡ n = omega arith in
        get_or-append_right _ _ n k d front above ∙ rw here (grind arith)

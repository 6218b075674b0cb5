-- Sums over lists that are made of others.
use Rattle.std.proofs.Common.{◌≡◌, ℕ, suc, ◌+◌, Bool, true, false, cond, List, [], ◌∷◌, length, map, filter, refl, ap, ◌∙◌, arith}
use Rattle.std.specs.Prelude.{All}
use Rattle.std.specs.List.{AllByRecursion, flat_map}
use Rattle.std.proofs.lemmas.List.Elements.{All-from_recursion, recursion_from_All}
use Rattle.st_model.specs.Lists.{total}
use Rattle.st_model.proofs.Sums.{total-append}

pub total-map : {X Y : Type 0} (h : Y → ℕ) (f : X → Y) (xs : List X) → total h (map f xs) ≡ total (λ x. h (f x)) xs
total-map h f [] = refl
total-map h f (x ∷ xs) = ap (λ n. h (f x) + n) (total-map h f xs)

pub total-filter : {X : Type 0} (h : X → ℕ) (p : X → Bool) (xs : List X) → total h (filter p xs) ≡ total (λ x. cond (p x) (h x) 0) xs
total-filter h p [] = refl
total-filter h p (x ∷ xs) = by_case (p x) (total-filter h p xs)
  where
    by_zero : (a b : ℕ) → a ≡ b → a ≡ 0 + b
    by_zero a b e = omega arith

    by_case : (b : Bool) → total h (filter p xs) ≡ total (λ x. cond (p x) (h x) 0) xs → total h (cond b (x ∷ filter p xs) (filter p xs)) ≡ cond b (h x) 0 + total (λ x. cond (p x) (h x) 0) xs
    by_case true e = ap (λ n. h x + n) e
    by_case false e = by_zero _ _ e

pub total-flat_map : {X Y : Type 0} (h : Y → ℕ) (g : X → List Y) (xs : List X) → total h (flat_map g xs) ≡ total (λ x. total h (g x)) xs
total-flat_map h g [] = refl
total-flat_map h g (x ∷ xs) = total-append h (g x) (flat_map g xs) ∙ ap (λ n. total h (g x) + n) (total-flat_map h g xs)

-- what is the same at each element, where something holds of it
pub total-same : {X : Type 0} (P : X → Type 0) (f g : X → ℕ) (xs : List X) → ((x : X) → P x → f x ≡ g x) → All P xs → total f xs ≡ total g xs
total-same {X} P f g xs same all = by_list xs (recursion_from_All P xs all)
  where
    both : (a b c d : ℕ) → a ≡ b → c ≡ d → a + c ≡ b + d
    both a b c d h k = omega arith

    by_list : (ys : List X) → AllByRecursion P ys → total f ys ≡ total g ys
    by_list [] h = refl
    by_list (y ∷ ys) h = both _ _ _ _ (same y h.0) (by_list ys h.1)

pub total-zero : {X : Type 0} (P : X → Type 0) (f : X → ℕ) (xs : List X) → ((x : X) → P x → f x ≡ 0) → All P xs → total f xs ≡ 0
total-zero P f xs none all = total-same P f (λ _. 0) xs none all ∙ zeros xs
  where
    zeros : {X : Type 0} (ys : List X) → total (λ _. 0) ys ≡ 0
    zeros [] = refl
    zeros (y ∷ ys) = by_zero _ (zeros ys)
      where
        by_zero : (a : ℕ) → a ≡ 0 → 0 + a ≡ 0
        by_zero a e = omega arith

pub total-add : {X : Type 0} (f g : X → ℕ) (xs : List X) → total f xs + total g xs ≡ total (λ x. f x + g x) xs
total-add f g [] = refl
total-add f g (x ∷ xs) = regroup _ _ _ _ _ (total-add f g xs)
  where
    regroup : (a b c d e : ℕ) → c + d ≡ e → a + c + (b + d) ≡ a + b + e
    regroup a b c d e h = omega arith

pub length-total : {X : Type 0} (xs : List X) → length xs ≡ total (λ _. 1) xs
length-total [] = refl
length-total (x ∷ xs) = one_more _ _ (length-total xs)
  where
    one_more : (a b : ℕ) → a ≡ b → suc a ≡ 1 + b
    one_more a b e = omega arith

-- what holds of each element, and what else does
pub All-both : {X : Type 0} (P Q : X → Type 0) (xs : List X) → All P xs → All Q xs → All (λ x. P x × Q x) xs
All-both {X} P Q xs p q = All-from_recursion (λ x. P x × Q x) xs (by_list xs (recursion_from_All P xs p) (recursion_from_All Q xs q))
  where
    by_list : (ys : List X) → AllByRecursion P ys → AllByRecursion Q ys → AllByRecursion (λ x. P x × Q x) ys
    by_list [] h k = tt
    by_list (y ∷ ys) h k = ((h.0, k.0), by_list ys h.1 k.1)

-- each element by itself
pub All-any : {X : Type 0} (P : X → Type 0) (xs : List X) → ((x : X) → P x) → All P xs
All-any {X} P xs any = All-from_recursion P xs (by_list xs)
  where
    by_list : (ys : List X) → AllByRecursion P ys
    by_list [] = tt
    by_list (y ∷ ys) = (any y, by_list ys)

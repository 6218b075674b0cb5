-- Sums over views, one or two of which change.
use Rattle.std.proofs.Common.{◌≡◌, ◌≢◌, ℕ, zero, suc, ◌+◌, ◌≤◌, List, [], ◌∷◌, ◌++◌, set, sym, refl, ap, arith}
use Rattle.std.specs.List.{sum_by}
use Rattle.std.proofs.lemmas.List.Sums.{sum_by-cons, sum_by-append}
use mathlib.Core.Option.{some-injective, some-ne-none}
use Rattle.seat_views.proofs.Places.{At, Each, each_set}

module _ {A : Type 0} (f : A → ℕ) where
  pub one_le : (l : List A) (i : ℕ) (v : A) → At l i v → f v ≤ sum_by f l
  one_le [] i v e = absurd (some-ne-none v (sym e))
  one_le (x ∷ xs) zero v e = let p : x ≡ v = some-injective x v e in let q : f x ≡ f v = ap f p in omega (arith, sum_by-cons f x xs, q)
  one_le (x ∷ xs) (suc i) v e = let h = one_le xs i v e in omega (arith, sum_by-cons f x xs, h)

  pub two_le : (l : List A) (i j : ℕ) (v w : A) → At l i v → At l j w → j ≢ i → f v + f w ≤ sum_by f l
  two_le [] i j v w a b n = absurd (some-ne-none v (sym a))
  two_le (x ∷ xs) zero zero v w a b n = absurd (n refl)
  two_le (x ∷ xs) zero (suc j) v w a b n = let q : f x ≡ f v = ap f (some-injective x v a) in let h = one_le xs j w b in omega (arith, sum_by-cons f x xs, q, h)
  two_le (x ∷ xs) (suc i) zero v w a b n = let q : f x ≡ f w = ap f (some-injective x w b) in let h = one_le xs i v a in omega (arith, sum_by-cons f x xs, q, h)
  two_le (x ∷ xs) (suc i) (suc j) v w a b n = let h = two_le xs i j v w a b (λ e. n (ap suc e)) in omega (arith, sum_by-cons f x xs, h)

  pub sum_set : (l : List A) (i : ℕ) (v w : A) → At l i v → sum_by f (set l i w) + f v ≡ sum_by f l + f w
  sum_set [] i v w e = absurd (some-ne-none v (sym e))
  sum_set (x ∷ xs) zero v w e = let q : f x ≡ f v = ap f (some-injective x v e) in omega (arith, sum_by-cons f x xs, sum_by-cons f w xs, q)
  sum_set (x ∷ xs) (suc i) v w e = let h = sum_set xs i v w e in omega (arith, sum_by-cons f x xs, sum_by-cons f x (set xs i w), h)

  pub sum_snoc : (l : List A) (w : A) → sum_by f (l ++ w ∷ []) ≡ sum_by f l + f w
  sum_snoc l w = let a = sum_by-append f l (w ∷ []) in let b = sum_by-cons f w [] in let c : sum_by f [] ≡ 0 = refl in omega (arith, a, b, c)

  pub sum_le : (g : A → ℕ) (l : List A) → Each (λ v. f v ≤ g v) l → sum_by f l ≤ sum_by g l
  sum_le g [] h = let a : sum_by f [] ≡ 0 = refl in omega arith
  sum_le g (x ∷ xs) h = let a = sum_le g xs (λ i v e. h (suc i) v e) in let b = h 0 x refl in omega (arith, sum_by-cons f x xs, sum_by-cons g x xs)

  -- One view is cut in two, which add up to it.
  pub sum_cut : (l : List A) (i : ℕ) (v left right : A) → At l i v → f left + f right ≡ f v → sum_by f (set l i left ++ right ∷ []) ≡ sum_by f l
  sum_cut l i v left right here cut = let a = sum_set l i v left here in let b = sum_snoc (set l i left) right in omega arith

  -- Two views become one, which adds up to both.
  pub sum_joined : (l : List A) (i j : ℕ) (v w both spent : A) → At l i v → At (set l i both) j w → f both + f spent ≡ f v + f w
      → sum_by f (set (set l i both) j spent) ≡ sum_by f l
  sum_joined l i j v w both spent here there joined = let a = sum_set l i v both here in let b = sum_set (set l i both) j w spent there in omega arith

  -- A view changes, and what is summed up of it doesn't.
  pub sum_same : (l : List A) (i : ℕ) (v w : A) → At l i v → f w ≡ f v → sum_by f (set l i w) ≡ sum_by f l
  sum_same l i v w here same = let a = sum_set l i v w here in omega arith

  -- What is summed up of one view grows.
  pub sum_grown : (l : List A) (i k : ℕ) (v w : A) → At l i v → f w ≡ f v + k → sum_by f (set l i w) ≡ sum_by f l + k
  sum_grown l i k v w here grown = let a = sum_set l i v w here in omega arith

module _ {A : Type 0} (f parts : A → ℕ) where
  -- Who has every part of some whole has all that is summed up, where those without a part have nothing.
  pub sum_whole : (l : List A) (i : ℕ) (v empty : A) → At l i v → parts empty ≡ 0 → f empty ≡ 0 → sum_by parts l ≡ parts v
      → Each (λ u. parts u ≡ 0 → f u ≡ 0) l → sum_by f l ≡ f v
  sum_whole l i v empty here no_part nothing all idle =
      let rest = set l i empty in
      let left : sum_by parts rest ≡ 0 = let a = sum_set parts l i v empty here in omega arith in
      let each : Each (λ u. f u ≤ parts u) rest = λ j u at.
      let none : parts u ≡ 0 = let a = one_le parts rest j u at in omega arith in
      let is : f u ≡ 0 = each_set (λ w. parts w ≡ 0 → f w ≡ 0) l i empty (λ _. nothing) idle j u at none in omega arith in
      let few = sum_le f parts rest each in let a = sum_set f l i v empty here in omega arith

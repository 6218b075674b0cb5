-- Edges taken one after the other, until one stands twice.
use Rattle.std.proofs.Common.{◌≡◌, ℕ, zero, suc, ◌+◌, ◌<◌, min, max, Bool, true, false, cond, not, inl, inr, ◌&&◌, ◌||◌, List, [], ◌∷◌, ◌++◌, length, map, get_or, take, refl, sym, ap, ◌∙◌, arith}
use Rattle.std.specs.Prelude.{◌==◌}
use Rattle.std.specs.List.{list_any}
use Rattle.std.proofs.Math.Bool.{or-false}
use Rattle.std.proofs.lemmas.Bool.{or_cases, or_left, or_right, or_from, false≢true}
use Rattle.std.proofs.lemmas.Bool.Decides.{nat_tests}
use Rattle.std.proofs.lemmas.List.{take_more, map-append}
use Rattle.std.proofs.lemmas.List.Folds.{list_any-append}
use Rattle.st_model.specs.Made.{is_between, has_pair}
use Rattle.st_model.specs.Regrown.{unordered}
use Rattle.solution_reader.specs.Stated.{repeats}

-- a pair stands among pairs with lower ends first where it stands in either direction
pub found_unordered : (xs : List (ℕ × ℕ)) (a b : ℕ) → list_any (λ y. (min a b == y.0) && (max a b == y.1)) (map unordered xs) ≡ has_pair xs a b
found_unordered [] a b = refl
found_unordered (x ∷ xs) a b = rw (found_unordered xs a b, one x) refl
  where
    one : (x : ℕ × ℕ) → ((min a b == min x.0 x.1) && (max a b == max x.0 x.1)) ≡ is_between x a b
    one x = grind (arith, nat_tests)

turned : (x y : ℕ × ℕ) → is_between x y.0 y.1 ≡ is_between y x.0 x.1
turned x y = grind (arith, nat_tests)

-- one edge more
pub repeats-push : (xs : List (ℕ × ℕ)) (y : ℕ × ℕ) → repeats (xs ++ y ∷ []) ≡ (has_pair xs y.0 y.1 || repeats xs)
repeats-push [] y = refl
repeats-push (x ∷ xs) y =
    let here : has_pair (xs ++ y ∷ []) x.0 x.1 ≡ (has_pair xs x.0 x.1 || is_between y x.0 x.1) = list_any-append (λ pair. is_between pair x.0 x.1) xs (y ∷ [])
    ∙ ap (λ (b : Bool). has_pair xs x.0 x.1 || b) (or-false (is_between y x.0 x.1)) in
    rw (here, repeats-push xs y, turned x y) (moved (has_pair xs x.0 x.1) (is_between y x.0 x.1) (has_pair xs y.0 y.1) (repeats xs))
  where
    moved : (p q r s : Bool) → ((p || q) || (r || s)) ≡ ((q || r) || (p || s))
    moved true true r s = refl
    moved true false true s = refl
    moved true false false s = refl
    moved false true r s = refl
    moved false false true s = refl
    moved false false false s = refl

-- what stands among the first stands
pair-take : (ys : List (ℕ × ℕ)) (j u v : ℕ) → has_pair (take j ys) u v ≡ true → has_pair ys u v ≡ true
pair-take ys zero u v h = absurd (false≢true h)
pair-take [] (suc j) u v h = absurd (false≢true h)
pair-take (y ∷ ys) (suc j) u v h = elim (or_cases (is_between y u v) (has_pair (take j ys) u v) h) [
  | inl here ↦ or_left (is_between y u v) (has_pair ys u v) here
  | inr there ↦ or_right (is_between y u v) (has_pair ys u v) (pair-take ys j u v there)
]

-- what stands twice among the first stands twice
pub repeats-take : (xs : List (ℕ × ℕ)) (k : ℕ) → repeats (take k xs) ≡ true → repeats xs ≡ true
repeats-take xs zero h = absurd (false≢true h)
repeats-take [] (suc k) h = absurd (false≢true h)
repeats-take (x ∷ xs) (suc k) h = elim (or_cases (has_pair (take k xs) x.0 x.1) (repeats (take k xs)) h) [
  | inl here ↦ or_left (has_pair xs x.0 x.1) (repeats xs) (pair-take xs k x.0 x.1 here)
  | inr there ↦ or_right (has_pair xs x.0 x.1) (repeats xs) (repeats-take xs k there)
]

-- the first edges, and one more
pub repeats-more : (xs : List (ℕ × ℕ)) (i : ℕ) (d : ℕ × ℕ) → i < length xs → repeats (take (i + 1) xs) ≡ (has_pair (take i xs) (get_or xs i d).0 (get_or xs i d).1 || repeats (take i xs))
repeats-more xs i d within = ap repeats (take_more xs i d within) ∙ repeats-push (take i xs) (get_or xs i d)

-- two numbers as a pair
abbrev made : ℕ → ℕ → ℕ × ℕ
made a b = (a, b)

turned_true : (new b : Bool) → new ≡ not b → new ≡ true → b ≡ false
turned_true new true e h = absurd (false≢true (sym e ∙ h))
turned_true new false e h = refl

turned_false : (new b : Bool) → new ≡ not b → new ≡ false → b ≡ true
turned_false new true e h = refl
turned_false new false e h = absurd (false≢true (sym h ∙ e))

module _ (xs : List (ℕ × ℕ)) (i : ℕ) (d : ℕ × ℕ) (keys : List (ℕ × ℕ)) (low high : ℕ) (new : Bool) (within : i < length xs) (are : keys ≡ map unordered (take i xs))
    (low_is : low ≡ min (get_or xs i d).0 (get_or xs i d).1) (high_is : high ≡ max (get_or xs i d).0 (get_or xs i d).1) (added : new ≡ not (list_any (λ y. (low == y.0) &&
    (high == y.1)) keys)) where
  found : list_any (λ y. (low == y.0) && (high == y.1)) keys ≡ has_pair (take i xs) (get_or xs i d).0 (get_or xs i d).1
  found = rw (are, low_is, high_is) (found_unordered (take i xs) (get_or xs i d).0 (get_or xs i d).1)

  -- the edge stood before
  pub stood_before : new ≡ false → repeats xs ≡ true
  stood_before old = repeats-take xs (i + 1) (repeats-more xs i d within ∙ or_left (has_pair (take i xs) (get_or xs i d).0 (get_or xs i d).1) (repeats (take i xs)) (sym found
      ∙ turned_false new _ added old))

  -- it didn't
  pub keys_more : new ≡ true → cond (list_any (λ y. (low == y.0) && (high == y.1)) keys) keys (keys ++ (low, high) ∷ []) ≡ map unordered (take (i + 1) xs)
  keys_more fresh =
      let gone = turned_true new (list_any (λ y. (low == y.0) && (high == y.1)) keys) added fresh in
      let last : made low high ≡ unordered (get_or xs i d) = ap (λ (w : ℕ). made w high) low_is ∙ ap (λ (w : ℕ). made (min (get_or xs i d).0 (get_or xs i d).1) w) high_is in
      ap (λ (b : Bool). cond b keys (keys ++ made low high ∷ [])) gone
      ∙ (ap (λ (ks : List (ℕ × ℕ)). ks ++ made low high ∷ []) are
      ∙ (ap (λ (p : ℕ × ℕ). map unordered (take i xs) ++ p ∷ []) last
      ∙ sym (ap (map unordered) (take_more xs i d within) ∙ map-append unordered (take i xs) (get_or xs i d ∷ []))))

  pub once_more : new ≡ true → repeats (take i xs) ≡ false → repeats (take (i + 1) xs) ≡ false
  once_more fresh once = repeats-more xs i d within ∙ or_from (has_pair (take i xs) (get_or xs i d).0 (get_or xs i d).1) (repeats (take i xs)) (sym found ∙ turned_true new _ added fresh) once

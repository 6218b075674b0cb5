-- Sets of terminals as bits.
use Rattle.std.proofs.Common.{◌≡◌, lit<, min, ◌||◌, ℕ, zero, suc, ◌+◌, ◌*◌, ◌/◌, ◌%◌, ◌^◌, ◌<◌, ◌≤◌, Bool, true, false, cond, eqb, List, [], ◌∷◌, length, get_or, refl, sym, ap, subst, ◌∙◌, ◌⊎◌, inl, inr, arith, eq-eqb}
use Rattle.std.specs.Prelude.{bit_and, ◌==◌, IsTrue, IsFalse}
use Rattle.std.specs.Int.Bits.{and_step}
use Rattle.std.proofs.Math.Nat.{pow-suc}
use Rattle.std.proofs.lemmas.Bool.{eqb-true, false≢true, cases_lt, or_cases}
use Rattle.st_model.proofs.Distinct.{has-cons_head, has-cons_tail}
use Rattle.st_model.proofs.Marked.{has_at, place_of}
use Rattle.st_model.proofs.Members.{has-one}
use Rattle.std.proofs.Math.Pow.{pow_mono}
use Rattle.std.proofs.lemmas.Bool.Decides.{nat_tests}
use Rattle.st_model.specs.Lists.{has}
use Rattle.st_model.specs.VertexSet.{AllApart}
use Rattle.few_terminals.specs.Under.{mask}
use Rattle.few_terminals.specs.Back.{is_among}

-- the lowest bit, and the others
pub half : (b : Bool) (m : ℕ) → (cond b 1 0 + 2 * m) / 2 ≡ m
half true m = omega arith
half false m = omega arith

pub lowest : (b : Bool) (m : ℕ) → eqb ((cond b 1 0 + 2 * m) % 2) 1 ≡ b
lowest true m = eq-eqb ((1 + 2 * m) % 2) 1 (omega arith)
lowest false m = let none : (0 + 2 * m) % 2 ≡ 0 = omega arith in rw none refl

-- of sets with nothing in common both halves have nothing in common
pub record AreHalves (a b : ℕ) : Type 0 where
  pub high : bit_and (a / 2) (b / 2) ≡ 0
  pub sum : (a + b) / 2 ≡ a / 2 + b / 2
  pub low : ((a + b) % 2 ≡ a % 2) ⊎ ((a + b) % 2 ≡ b % 2)

pub halves : (a b : ℕ) → bit_and a b ≡ 0 → AreHalves a b
halves a b none =
    let step = and_step a b in
    record { high = omega (arith, step); sum = omega (arith, step); low = at step }
  where
    at : bit_and a b ≡ bit_and (a / 2) (b / 2) * 2 + min (a % 2) (b % 2) → ((a + b) % 2 ≡ a % 2) ⊎ ((a + b) % 2 ≡ b % 2)
    at step = by_case (cases_lt (a % 2) 1)
      where
        by_case : (a % 2 < 1) ⊎ (1 ≤ a % 2) → ((a + b) % 2 ≡ a % 2) ⊎ ((a + b) % 2 ≡ b % 2)
        by_case (inl even) = inr (omega arith)
        by_case (inr odd) = inl (omega (arith, step))

-- so they sum up below the same power of two
pub sum_below : (k a b : ℕ) → bit_and a b ≡ 0 → a < 2 ^ k → b < 2 ^ k → a + b < 2 ^ k
sum_below zero a b none small also =
    let x : a < 1 = small in
    let y : b < 1 = also in
    let z : a + b < 1 = omega arith in
    z
sum_below (suc k) a b none small also =
    let h = halves a b none in
    let double = pow-suc 2 k in
    let rest = sum_below k (a / 2) (b / 2) h.high (omega (arith, double)) (omega (arith, double)) in
    let same = h.sum in
    omega (arith, double, rest, same)

-- a terminal of a sum is one of either set
pub among_sum : (ks : List ℕ) (a b v : ℕ) → bit_and a b ≡ 0 → IsTrue (is_among ks (a + b) v) → IsTrue (is_among ks a v) ⊎ IsTrue (is_among ks b v)
among_sum [] a b v none there = absurd (false≢true there)
among_sum (k ∷ ks) a b v none there = at (k == v) (halves a b none) there (λ h. among_sum ks (a / 2) (b / 2) v h.high)
  where
    at : (t : Bool) → AreHalves a b → IsTrue (cond t (eqb ((a + b) % 2) 1) (is_among ks ((a + b) / 2) v)) → (AreHalves a b → IsTrue (is_among ks (a / 2 + b / 2) v) → IsTrue (is_among ks (a / 2) v) ⊎ IsTrue (is_among ks (b / 2) v)) → IsTrue (cond t (eqb (a % 2) 1) (is_among ks (a / 2) v)) ⊎ IsTrue (cond t (eqb (b % 2) 1) (is_among ks (b / 2) v))
    at true h there rest = elim h.low [
      | inl first ↦ inl (subst (λ (x : ℕ). IsTrue (eqb x 1)) first there)
      | inr second ↦ inr (subst (λ (x : ℕ). IsTrue (eqb x 1)) second there)
    ]
    at false h there rest = rest h (subst (λ (x : ℕ). IsTrue (is_among ks x v)) h.sum there)

-- who has a bit in the mask of a list stands in the list
pub among_mask : (ks xs : List ℕ) (v : ℕ) → IsTrue (is_among ks (mask ks xs) v) → IsTrue (has xs v)
among_mask [] xs v there = absurd (false≢true there)
among_mask (k ∷ ks) xs v there = at (k == v) refl there (among_mask ks xs v)
  where
    at : (t : Bool) → (k == v) ≡ t → IsTrue (cond t (eqb ((cond (has xs k) 1 0 + 2 * mask ks xs) % 2) 1) (is_among ks ((cond (has xs k) 1 0 + 2 * mask ks xs) / 2) v)) → (IsTrue (is_among ks (mask ks xs) v) → IsTrue (has xs v)) → IsTrue (has xs v)
    at true is there rest = subst (λ (x : ℕ). IsTrue (has xs x)) (eqb-true k v is) (sym (lowest (has xs k) (mask ks xs)) ∙ there)
    at false is there rest = rest (subst (λ (x : ℕ). IsTrue (is_among ks x v)) (half (has xs k) (mask ks xs)) there)

-- a terminal of the list has its bit there
pub mask_among : (ks xs : List ℕ) (v : ℕ) → IsTrue (has ks v) → IsTrue (has xs v) → IsTrue (is_among ks (mask ks xs) v)
mask_among [] xs v known there = absurd (false≢true known)
mask_among (k ∷ ks) xs v known there = at (k == v) refl known (λ h. mask_among ks xs v h there)
  where
    at : (t : Bool) → (k == v) ≡ t → IsTrue (t || has ks v) → (IsTrue (has ks v) → IsTrue (is_among ks (mask ks xs) v)) → IsTrue (cond t (eqb ((cond (has xs k) 1 0 + 2 * mask ks xs) % 2) 1) (is_among ks ((cond (has xs k) 1 0 + 2 * mask ks xs) / 2) v))
    at true is known rest = lowest (has xs k) (mask ks xs) ∙ subst (λ (x : ℕ). IsTrue (has xs x)) (sym (eqb-true k v is)) there
    at false is known rest = subst (λ (x : ℕ). IsTrue (is_among ks x v)) (sym (half (has xs k) (mask ks xs))) (rest known)

-- a list with all terminals has all bits
pub mask_full : (ks xs : List ℕ) → ((k : ℕ) → IsTrue (has ks k) → IsTrue (has xs k)) → mask ks xs + 1 ≡ 2 ^ length ks
mask_full [] xs all = refl
mask_full (k ∷ ks) xs all =
    let first : has xs k ≡ true = all k (has-cons_head ks k k refl) in
    let rest = mask_full ks xs (λ x there. all x (has-cons_tail ks k x there)) in
    let double = pow-suc 2 (length ks) in
    rw first (omega (arith, rest, double))

-- no list has a bit past all terminals
pub mask_below : (ks xs : List ℕ) → mask ks xs < 2 ^ length ks
mask_below [] xs = lit< tt
mask_below (k ∷ ks) xs =
    let rest = mask_below ks xs in
    let double = pow-suc 2 (length ks) in
    let bit = few (has xs k) in
    omega (arith, rest, double, bit)
  where
    few : (b : Bool) → cond b 1 0 ≤ 1
    few true = omega arith
    few false = omega arith

-- who is no terminal has no bit
pub mask_none : (ks : List ℕ) (v : ℕ) → IsFalse (has ks v) → mask ks (v ∷ []) ≡ 0
mask_none [] v out = refl
mask_none (k ∷ ks) v out =
    let other : (v == k) ≡ false = grind (arith, nat_tests) in
    let rest = mask_none ks v (grind (arith, nat_tests)) in
    rw (other, rest) refl

-- and who is one has one
pub mask_some : (ks : List ℕ) (v : ℕ) → IsTrue (has ks v) → 1 ≤ mask ks (v ∷ [])
mask_some [] v there = absurd (false≢true there)
mask_some (k ∷ ks) v there = at (k == v) refl there (mask_some ks v)
  where
    most : (b : Bool) (m : ℕ) → 1 ≤ m → 1 ≤ cond b 1 0 + 2 * m
    most true m h = omega arith
    most false m h = omega arith

    at : (t : Bool) → (k == v) ≡ t → IsTrue (t || has ks v) → (IsTrue (has ks v) → 1 ≤ mask ks (v ∷ [])) → 1 ≤ cond (has (v ∷ []) k) 1 0 + 2 * mask ks (v ∷ [])
    at true is there rest =
        let here : has (v ∷ []) k ≡ true = has-cons_head [] v k (eqb-true k v is) in
        rw here (omega arith)
    at false is there rest = most (has (v ∷ []) k) (mask ks (v ∷ [])) (rest there)

-- the terminal at a place has the bit of that place alone
pub mask_at : (ks : List ℕ) (i : ℕ) → AllApart ks → i < length ks → mask ks (get_or ks i 0 ∷ []) ≡ 2 ^ i
mask_at [] i once within = absurd (omega arith)
mask_at (k ∷ ks) zero once within =
    let here : has (k ∷ []) k ≡ true = has-cons_head [] k k refl in
    let rest = mask_none ks k once.0 in
    rw (here, rest) refl
mask_at (k ∷ ks) (suc i) once within =
    let inside : i < length ks = omega arith in
    let there = has_at ks i 0 inside in
    let other : has (get_or ks i 0 ∷ []) k ≡ false = apart_from k (get_or ks i 0) once.0 there in
    let rest = mask_at ks i once.1 inside in
    let double = pow-suc 2 i in
    rw (other, rest) (omega (arith, double))
  where
    apart_from : (k x : ℕ) → IsFalse (has ks k) → IsTrue (has ks x) → has (x ∷ []) k ≡ false
    apart_from k x out there = by_case (x == k) refl
      where
        by_case : (t : Bool) → (x == k) ≡ t → (t || false) ≡ false
        by_case true is = absurd (false≢true (sym out ∙ subst (λ (y : ℕ). IsTrue (has ks y)) (eqb-true x k is) there))
        by_case false is = refl

-- and no other terminal has it
pub mask_only : (ks : List ℕ) (i k : ℕ) → i < length ks → IsTrue (has ks k) → mask ks (k ∷ []) ≡ 2 ^ i → k ≡ get_or ks i 0
mask_only [] i k within known is = absurd (omega arith)
mask_only (x ∷ ks) zero k within known is = by_case (has (k ∷ []) x) refl is
  where
    by_case : (b : Bool) → has (k ∷ []) x ≡ b → cond b 1 0 + 2 * mask ks (k ∷ []) ≡ 1 → k ≡ x
    by_case true same is = has-one k x same
    by_case false other is = absurd (omega (arith, is))
mask_only (x ∷ ks) (suc i) k within known is = by_case (has (k ∷ []) x) refl is (λ there rest. mask_only ks i k (omega arith) there rest)
  where
    double : 2 ^ suc i ≡ 2 ^ i * 2
    double = pow-suc 2 i

    listed : has (k ∷ []) x ≡ false → IsTrue (has ks k)
    listed other = elim (or_cases (x == k) (has ks k) known) [
      | inl same ↦ absurd (false≢true (sym other ∙ has-cons_head [] k x (eqb-true x k same)))
      | inr there ↦ there
    ]

    by_case : (b : Bool) → has (k ∷ []) x ≡ b → cond b 1 0 + 2 * mask ks (k ∷ []) ≡ 2 ^ suc i → (IsTrue (has ks k) → mask ks (k ∷ []) ≡ 2 ^ i → k ≡ get_or ks i 0) → k ≡ get_or ks i 0
    by_case true same is rest = absurd (omega (arith, is, double))
    by_case false other is rest = rest (listed other) (omega (arith, is, double))

-- where no place has a set as its bit, no terminal has
pub mask_nowhere : (ks : List ℕ) (bits k : ℕ) → AllApart ks → ((i : ℕ) → i < length ks → 2 ^ i ≡ bits → ⊥) → IsTrue (has ks k) → mask ks (k ∷ []) ≡ bits → ⊥
mask_nowhere ks bits k once none known is = at (place_of ks k known)
  where
    at : ((i : ℕ) × (i < length ks) × (get_or ks i 0 ≡ k)) → ⊥
    at (i, within, here) = none i within (sym (mask_at ks i once within) ∙ (ap (λ (x : ℕ). mask ks (x ∷ [])) here ∙ is))

-- a bit of a terminal, doubled, fits
pub bit_fits : (i : ℕ) → i < 11 → 2 ^ i ≤ 1024
bit_fits i low = pow_mono (let few : i ≤ 10 = omega (arith, low) in few)

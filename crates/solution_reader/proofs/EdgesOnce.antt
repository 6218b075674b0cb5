-- Pairs of which none stands twice, in either direction.
use Rattle.std.proofs.Common.{◌≡◌, ℕ, ◌+◌, ◌≤◌, min, max, Bool, true, false, cond, ◌&&◌, ◌||◌, List, [], ◌∷◌, ◌++◌, length, map, inl, inr, refl, sym, ap, subst, ◌∙◌, arith, length-append}
use Rattle.std.specs.Prelude.{◌==◌, IsTrue}
use Rattle.std.specs.List.{AllByRecursion}
use Rattle.std.specs.List.Sorted.{IsPermutation}
use Rattle.std.proofs.Math.Bool.{or_comm}
use Rattle.std.proofs.lemmas.Bool.{or_cases, or_parts, or_from, or_left, or_right, false_from_ne_true, false≢true}
use Rattle.std.proofs.lemmas.Bool.Decides.{nat_tests}
use Rattle.std.proofs.lemmas.List.{map-append, nil_from_length}
use Rattle.std.proofs.lemmas.List.Sorted.{IsPermutation-refl, IsPermutation-trans, IsPermutation-cons, IsPermutation-middle}
use Rattle.st_model.specs.Lists.{has, total}
use Rattle.st_model.specs.Made.{is_between, has_pair}
use Rattle.st_model.specs.Ground.{Ground}
use Rattle.st_model.specs.Regrown.{unordered}
use Rattle.st_model.specs.Arborescence.{GrowsIn}
use Rattle.st_model.proofs.Distinct.{between-ends, has-cons_head, has-cons_tail}
use Rattle.st_model.proofs.RegrowAlike.{total-IsPermutation}
use Rattle.solution_reader.specs.Stated.{repeats}

-- ---- the same pair in either direction

-- what is the same pair as one that is u and v is u and v itself
between-same : (x y : ℕ × ℕ) (u v : ℕ) → is_between x u v ≡ true → is_between y x.0 x.1 ≡ is_between y u v
between-same x y u v h = elim (between-ends x u v h) [
  | inl e ↦ ap (λ (w : ℕ). is_between y w x.1) e.0 ∙ ap (λ (w : ℕ). is_between y u w) e.1
  | inr e ↦ (ap (λ (w : ℕ). is_between y w x.1) e.0 ∙ ap (λ (w : ℕ). is_between y v w) e.1) ∙ or_comm ((y.0 == v) && (y.1 == u)) ((y.0 == u) && (y.1 == v))
]

has_pair-same : (ys : List (ℕ × ℕ)) (x : ℕ × ℕ) (u v : ℕ) → is_between x u v ≡ true → has_pair ys x.0 x.1 ≡ has_pair ys u v
has_pair-same [] x u v h = refl
has_pair-same (y ∷ ys) x u v h = rw (between-same x y u v h, has_pair-same ys x u v h) refl

pub between-turned : (x y : ℕ × ℕ) → is_between x y.0 y.1 ≡ is_between y x.0 x.1
between-turned x y = grind (arith, nat_tests)

pub between-self : (x : ℕ × ℕ) → is_between x x.0 x.1 ≡ true
between-self x = grind (arith, nat_tests)

-- two numbers as a pair, and the lower one first
abbrev made : ℕ → ℕ → ℕ × ℕ
made a b = (a, b)

abbrev lower_first : ℕ → ℕ → ℕ × ℕ
lower_first a b = (min a b, max a b)

lower_first-turned : (a b : ℕ) → lower_first a b ≡ lower_first b a
lower_first-turned a b =
    let low : min a b ≡ min b a = omega arith in
    let high : max a b ≡ max b a = omega arith in
    ap (λ (w : ℕ). made w (max a b)) low ∙ ap (λ (w : ℕ). made (min b a) w) high

-- pairs in either direction have one form with the lower end first
pub between-unordered : (x y : ℕ × ℕ) → is_between y x.0 x.1 ≡ true → unordered y ≡ unordered x
between-unordered x y h = elim (between-ends y x.0 x.1 h) [
  | inl e ↦ ap (λ (w : ℕ). lower_first w y.1) e.0 ∙ ap (λ (w : ℕ). lower_first x.0 w) e.1
  | inr e ↦ (ap (λ (w : ℕ). lower_first w y.1) e.0 ∙ ap (λ (w : ℕ). lower_first x.1 w) e.1) ∙ lower_first-turned x.1 x.0
]

pub between-from_unordered : (x : ℕ × ℕ) (u v : ℕ) → is_between (unordered x) u v ≡ is_between x u v
between-from_unordered x u v = grind (arith, nat_tests)

-- ---- how often a pair stands

-- whether a pair is u and v, as a number
abbrev times : ℕ → ℕ → ℕ × ℕ → ℕ
times u v x = cond (is_between x u v) 1 0

none_there : (xs : List (ℕ × ℕ)) (u v : ℕ) → has_pair xs u v ≡ false → total (times u v) xs ≡ 0
none_there [] u v h = refl
none_there (x ∷ xs) u v h =
    let p = or_parts (is_between x u v) (has_pair xs u v) h in
    let here : is_between x u v ≡ false = p.0 in
    rw (here, none_there xs u v p.1) refl

there_none : (xs : List (ℕ × ℕ)) (u v : ℕ) → total (times u v) xs ≤ 0 → has_pair xs u v ≡ false
there_none [] u v h = refl
there_none (x ∷ xs) u v h = by_case (is_between x u v) refl h (there_none xs u v)
  where
    by_case : (b : Bool) → is_between x u v ≡ b → cond b 1 0 + total (times u v) xs ≤ 0 → (total (times u v) xs ≤ 0 → has_pair xs u v ≡ false) → (b || has_pair xs u v) ≡ false
    by_case true is h rest = absurd (omega arith)
    by_case false is h rest = rest (omega arith)

-- none stands twice exactly where none stands more than once
once_at_most : (xs : List (ℕ × ℕ)) (u v : ℕ) → repeats xs ≡ false → total (times u v) xs ≤ 1
once_at_most [] u v h = omega arith
once_at_most (x ∷ xs) u v h =
    let p = or_parts (has_pair xs x.0 x.1) (repeats xs) h in
    by_case (is_between x u v) refl p.0 (once_at_most xs u v p.1)
  where
    by_case : (b : Bool) → is_between x u v ≡ b → has_pair xs x.0 x.1 ≡ false → total (times u v) xs ≤ 1 → cond b 1 0 + total (times u v) xs ≤ 1
    by_case true is absent rest =
        let none : total (times u v) xs ≡ 0 = none_there xs u v (sym (has_pair-same xs x u v is) ∙ absent) in
        omega (arith, none)
    by_case false is absent rest = omega (arith, rest)

at_most_once : (xs : List (ℕ × ℕ)) → ((u v : ℕ) → total (times u v) xs ≤ 1) → repeats xs ≡ false
at_most_once [] h = refl
at_most_once (x ∷ xs) h = or_from (has_pair xs x.0 x.1) (repeats xs) (there_none xs x.0 x.1 none) (at_most_once xs fewer)
  where
    none : total (times x.0 x.1) xs ≤ 0
    none =
        let one : times x.0 x.1 x + total (times x.0 x.1) xs ≤ 1 = h x.0 x.1 in
        let self : times x.0 x.1 x ≡ 1 = rw (between-self x) refl in
        omega (arith, one, self)

    fewer : (u v : ℕ) → total (times u v) xs ≤ 1
    fewer u v = let all : times u v x + total (times u v) xs ≤ 1 = h u v in omega (arith, all)

total-times_unordered : (xs : List (ℕ × ℕ)) (u v : ℕ) → total (times u v) (map unordered xs) ≡ total (times u v) xs
total-times_unordered [] u v = refl
total-times_unordered (x ∷ xs) u v = rw (between-from_unordered x u v, total-times_unordered xs u v) refl

-- pairs that are others in another order and in other directions
pub repeats-IsPermutation : (xs ys : List (ℕ × ℕ)) → IsPermutation (map unordered xs) (map unordered ys) → repeats xs ≡ false → repeats ys ≡ false
repeats-IsPermutation xs ys h once = at_most_once ys (λ u v.
    let few = once_at_most xs u v once in
    let same : total (times u v) xs ≡ total (times u v) ys = sym (total-times_unordered xs u v) ∙ (total-IsPermutation (times u v) (map unordered xs) (map unordered ys) h
    ∙ total-times_unordered ys u v) in
    omega (arith, few, same))

-- ---- arcs that grow

-- no arc that grows leads to what is reached
pub not_again : (G : Ground) (r : List ℕ) (arcs : List (ℕ × ℕ)) (u v : ℕ) → GrowsIn G r arcs → has r u ≡ true → has r v ≡ true → has_pair arcs u v ≡ false
not_again G r [] u v g first second = refl
not_again G r (arc ∷ arcs) u v g first second =
    or_from (is_between arc u v) (has_pair arcs u v) (false_from_ne_true (is_between arc u v) never)
    (not_again G (arc.1 ∷ r) arcs u v g.3 (has-cons_tail r arc.1 u first) (has-cons_tail r arc.1 v second))
  where
    never : is_between arc u v ≡ true → ⊥
    never h = elim (between-ends arc u v h) [
      | inl e ↦ false≢true (sym g.2 ∙ (ap (has r) e.1 ∙ second))
      | inr e ↦ false≢true (sym g.2 ∙ (ap (has r) e.1 ∙ first))
    ]

-- so no link is used twice
pub grows_once : (G : Ground) (r : List ℕ) (arcs : List (ℕ × ℕ)) → GrowsIn G r arcs → repeats arcs ≡ false
grows_once G r [] g = refl
grows_once G r (arc ∷ arcs) g =
    or_from (has_pair arcs arc.0 arc.1) (repeats arcs)
    (not_again G (arc.1 ∷ r) arcs arc.0 arc.1 g.3 (has-cons_tail r arc.1 arc.0 g.1) (has-cons_head r arc.1 arc.1 refl))
    (grows_once G (arc.1 ∷ r) arcs g.3)

-- ---- different pairs that are among no more pairs are all of them

-- a pair stands at a place
pub record StandsIn (ys : List (ℕ × ℕ)) (u v : ℕ) : Type 0 where
  pub before : List (ℕ × ℕ)
  pub pair : ℕ × ℕ
  pub later : List (ℕ × ℕ)
  pub split : ys ≡ before ++ pair ∷ later
  pub is : is_between pair u v ≡ true

stands : (ys : List (ℕ × ℕ)) (u v : ℕ) → has_pair ys u v ≡ true → StandsIn ys u v
stands [] u v h = absurd (false≢true h)
stands (y ∷ ys) u v h = elim (or_cases (is_between y u v) (has_pair ys u v) h) [
  | inl here ↦ record { before = []; pair = y; later = ys; split = refl; is = here }
  | inr there ↦ let s = stands ys u v there in record { before = y ∷ s.before; pair = s.pair; later = s.later; split = ap (λ (zs : List (ℕ × ℕ)). y ∷ zs) s.split; is = s.is }
]

-- another pair stands in what is left
still_there : (before : List (ℕ × ℕ)) (y : ℕ × ℕ) (later : List (ℕ × ℕ)) (u v : ℕ) → is_between y u v ≡ false → has_pair (before ++ y ∷ later) u v ≡ true → has_pair (before ++ later) u v ≡ true
still_there [] y later u v other h = let without : (false || has_pair later u v) ≡ true = rw other at h in without
still_there (x ∷ before) y later u v other h = elim (or_cases (is_between x u v) (has_pair (before ++ y ∷ later) u v) h) [
  | inl here ↦ or_left (is_between x u v) (has_pair (before ++ later) u v) here
  | inr there ↦ or_right (is_between x u v) (has_pair (before ++ later) u v) (still_there before y later u v other there)
]

all_still_there : (x : ℕ × ℕ) (before : List (ℕ × ℕ)) (y : ℕ × ℕ) (later xs : List (ℕ × ℕ)) → is_between y x.0 x.1 ≡ true → has_pair xs x.0 x.1 ≡ false
    → AllByRecursion (λ e. IsTrue (has_pair (before ++ y ∷ later) e.0 e.1)) xs → AllByRecursion (λ e. IsTrue (has_pair (before ++ later) e.0 e.1)) xs
all_still_there x before y later [] same absent h = tt
all_still_there x before y later (e ∷ xs) same absent h =
    let p = or_parts (is_between e x.0 x.1) (has_pair xs x.0 x.1) absent in
    let other : is_between y e.0 e.1 ≡ false = between-turned y e ∙ (between-same y e x.0 x.1 same ∙ p.0) in
    (still_there before y later e.0 e.1 other h.0, all_still_there x before y later xs same p.1 h.1)

pub all_of_them : (xs ys : List (ℕ × ℕ)) → repeats xs ≡ false → AllByRecursion (λ e. IsTrue (has_pair ys e.0 e.1)) xs → length ys ≤ length xs → IsPermutation (map unordered ys) (map unordered xs)
all_of_them [] ys once among few = let none = nil_from_length ys (omega arith) in rw none (IsPermutation-refl [])
all_of_them (x ∷ xs) ys once among few =
    let p = or_parts (has_pair xs x.0 x.1) (repeats xs) once in
    let s = stands ys x.0 x.1 among.0 in
    let there : AllByRecursion (λ e. IsTrue (has_pair (s.before ++ s.pair ∷ s.later) e.0 e.1)) xs = subst (λ (zs : List (ℕ × ℕ)). AllByRecursion (λ e. IsTrue
    (has_pair zs e.0 e.1)) xs) s.split among.1 in
    let long = ap length s.split in
    let long_split = length-append s.before (s.pair ∷ s.later) in
    let long_left = length-append s.before s.later in
    let rest = all_of_them xs (s.before ++ s.later) p.1 (all_still_there x s.before s.pair s.later xs s.is p.0 there) (omega (arith, long, long_split, long_left)) in
    let moved = IsPermutation-middle (map unordered s.before) (unordered s.pair) (map unordered s.later) in
    let joined = map-append unordered s.before s.later in
    let same = between-unordered x s.pair s.is in
    rw (s.split, map-append unordered s.before (s.pair ∷ s.later)) (IsPermutation-trans _ _ _ moved (rw (same, ← joined) (IsPermutation-cons (unordered x) _ _ rest)))

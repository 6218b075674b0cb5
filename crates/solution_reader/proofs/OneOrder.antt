-- Lists in which nothing stands twice and that have the same elements are one another in another order.
use Rattle.std.proofs.Common.{◌≡◌, ℕ, List, [], ◌∷◌, ◌++◌, ◌⊎◌, inl, inr, refl, sym, ap, subst, ◌∙◌, arith}
use Rattle.std.specs.Prelude.{◌↔◌, Contains}
use Rattle.std.specs.List.{AllByRecursion}
use Rattle.std.specs.List.Sorted.{IsPermutation, IsStrictlySortedBy}
use Rattle.std.specs.declared.cmp.Ordering.TheVariants.{Less, Greater}
use Rattle.std.specs.Ordering.{ordering_reverse}
use Rattle.std.specs.Cmp.{then_total, on_total}
use Rattle.std.proofs.lemmas.Cmp.{nat_cmp_total}
use Rattle.std.proofs.lemmas.List.Elements.{All-contains, All-from_recursion, Contains-append_cases, Contains-append_left, Contains-append_right}
use Rattle.std.proofs.lemmas.List.Sorted.{IsPermutation-refl, IsPermutation-trans, IsPermutation-cons, IsPermutation-middle}
use Rattle.std.proofs.lemmas.Map.Keys.{sorted_head, sorted_tail}
use Rattle.dimacs_writer.specs.Solution.{edge_order}

-- no element stands again among the later ones
abbrev pub AreApart : {X : Type 0} → List X → Type 0
AreApart [] = Unit {0}
AreApart (x ∷ xs) = (Contains xs x → ⊥) × AreApart xs

-- ---- elements of a list with one more in front, or in the middle

pub in_front : {X : Type 0} (x : X) (xs : List X) → Contains (x ∷ xs) x
in_front x xs = (0, omega arith, refl)

pub further : {X : Type 0} (x : X) (xs : List X) (y : X) → Contains xs y → Contains (x ∷ xs) y
further x xs y there = Contains-append_right (x ∷ []) xs y there

pub is_nowhere : {X : Type 0} (y : X) → Contains [] y → ⊥
is_nowhere y there = let within = there.1 in omega arith

pub front_or_further : {X : Type 0} (x : X) (xs : List X) (y : X) → Contains (x ∷ xs) y → (x ≡ y) ⊎ Contains xs y
front_or_further {X} x xs y there = elim (Contains-append_cases (x ∷ []) xs y there) [
  | inl here ↦ inl (All-contains (λ w. x ≡ w) (x ∷ []) y (All-from_recursion (λ w. x ≡ w) (x ∷ []) (refl, tt)) here)
  | inr later ↦ inr later
]

still_there : {X : Type 0} (before : List X) (x : X) (later : List X) (y : X) → Contains (before ++ later) y → Contains (before ++ x ∷ later) y
still_there before x later y there = elim (Contains-append_cases before later y there) [
  | inl first ↦ Contains-append_left before (x ∷ later) y first
  | inr second ↦ Contains-append_right before (x ∷ later) y (further x later y second)
]

middle_or_other : {X : Type 0} (before : List X) (x : X) (later : List X) (y : X) → Contains (before ++ x ∷ later) y → (x ≡ y) ⊎ Contains (before ++ later) y
middle_or_other before x later y there = elim (Contains-append_cases before (x ∷ later) y there) [
  | inl first ↦ inr (Contains-append_left before later y first)
  | inr second ↦ elim (front_or_further x later y second) [
    | inl same ↦ inl same
    | inr other ↦ inr (Contains-append_right before later y other)
  ]
]

-- where an element stands
record StandsAt {X : Type 0} (xs : List X) (x : X) : Type 0 where
  before : List X
  later : List X
  split : xs ≡ before ++ x ∷ later

stands_at : {X : Type 0} (xs : List X) (x : X) → Contains xs x → StandsAt xs x
stands_at [] x there = absurd (is_nowhere x there)
stands_at {X} (y ∷ ys) x there = elim (front_or_further y ys x there) [
  | inl same ↦ record { before = []; later = ys; split = ap (λ (w : X). w ∷ ys) same }
  | inr other ↦ let s = stands_at ys x other in record { before = y ∷ s.before; later = s.later; split = ap (λ (zs : List X). y ∷ zs) s.split }
]

-- what stands once is gone when it is taken out
taken_out : {X : Type 0} (before : List X) (x : X) (later : List X) → AreApart (before ++ x ∷ later) → AreApart (before ++ later) × (Contains (before ++ later) x → ⊥)
taken_out [] x later apart = (apart.1, apart.0)
taken_out {X} (b ∷ before) x later apart =
    let rest = taken_out before x later apart.1 in
    let middle : Contains (before ++ x ∷ later) x = Contains-append_right before (x ∷ later) x (in_front x later) in (
      (λ there. apart.0 (still_there before x later b there), rest.0),
      λ there. elim (front_or_further b (before ++ later) x there) [
        | inl same ↦ apart.0 (subst (λ (w : X). Contains (before ++ x ∷ later) w) (sym same) middle)
        | inr other ↦ rest.1 other
      ],
    )

pub one_order : {X : Type 0} (xs ys : List X) → AreApart xs → AreApart ys → ((x : X) → Contains ys x ↔ Contains xs x) → IsPermutation ys xs
one_order [] [] xs_apart ys_apart same = IsPermutation-refl []
one_order [] (y ∷ ys) xs_apart ys_apart same = absurd (is_nowhere y ((same y).0 (in_front y ys)))
one_order {X} (x ∷ xs) ys xs_apart ys_apart same =
    let s = stands_at ys x ((same x).1 (in_front x xs)) in
    let out = taken_out s.before x s.later (subst (λ (zs : List X). AreApart zs) s.split ys_apart) in
    let rest = one_order xs (s.before ++ s.later) xs_apart.1 out.0 (λ y. (
      λ there. elim (front_or_further x xs y ((same y).0 (subst (λ (zs : List X). Contains zs y) (sym s.split) (still_there s.before x s.later y there)))) [
        | inl front ↦ absurd (out.1 (subst (λ (w : X). Contains (s.before ++ s.later) w) (sym front) there))
        | inr other ↦ other
      ],
      λ there. elim (middle_or_other s.before x s.later y (subst (λ (zs : List X). Contains zs y) s.split ((same y).1 (further x xs y there)))) [
        | inl middle ↦ absurd (xs_apart.0 (subst (λ (w : X). Contains xs w) (sym middle) there))
        | inr other ↦ other
      ],
    )) in
    rw s.split (IsPermutation-trans _ _ _ (IsPermutation-middle s.before x s.later) (IsPermutation-cons x _ _ rest))

-- ---- pairs that ascend

edges_differ : (x y : ℕ × ℕ) → x ≡ y → edge_order x y ≡ Less → ⊥
edges_differ x y same less =
    let self : edge_order x x ≡ Less = ap (λ (w : ℕ × ℕ). edge_order x w) same ∙ less in
    let turned : edge_order x x ≡ ordering_reverse (edge_order x x) = (then_total (on_total (λ (e : ℕ × ℕ). e.0) nat_cmp_total) (on_total (λ (e : ℕ × ℕ). e.1) nat_cmp_total)).antisymm x x in
    let wrong : Less ≡ Greater = sym self ∙ (turned ∙ ap ordering_reverse self) in
    cc

pub sorted_apart : (es : List (ℕ × ℕ)) → IsStrictlySortedBy edge_order es → AreApart es
sorted_apart [] up = tt
sorted_apart (e ∷ es) up = (
  λ there. edges_differ e e refl (All-contains (λ f. edge_order e f ≡ Less) es e (All-from_recursion (λ f. edge_order e f ≡ Less) es (sorted_head edge_order e es up)) there),
  sorted_apart es (sorted_tail edge_order e es up),
)

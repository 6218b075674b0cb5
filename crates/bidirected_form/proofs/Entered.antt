-- The arcs that enter a set, as they are found row by row, and their order.
use Rattle.std.proofs.Common.{◌≡◌, ℕ, zero, suc, ◌+◌, ◌-◌, ◌<◌, Bool, true, false, ◌&&◌, cond, eqb, ltb, List, [], ◌∷◌, ◌++◌, length, get_or, take, Contains, Option, Some, ◌⊎◌, inl, inr, refl, sym, ap, ◌∙◌, subst, arith}
use Rattle.std.specs.Prelude.{AllPairs, IsTrue, IsFalse, IsSome, IsPermutation, ◌↔◌}
use Rattle.std.specs.Ordering.{nat_cmp, ordering_then, is_lt}
use Rattle.std.specs.declared.cmp.Ordering.TheVariants.{Less, Equal, Greater}
use Rattle.std.specs.List.{IsDistinct, AllByRecursion, flat_map}
use Rattle.std.specs.List.Sorted.{IsSorted, IsStrictlyIncreasing}
use Rattle.std.proofs.lemmas.Bool.{ne_eqb, eq-eqb, eqb-true, false≢true, or_cases, or_left, or_right}
use Rattle.std.proofs.lemmas.Bool.Decides.{nat_tests}
use Rattle.std.proofs.lemmas.List.{take_more, append-nil, append_assoc}
use Rattle.std.proofs.lemmas.List.Elements.{Contains-append_left, Contains-append_right, Contains-append_cases}
use Rattle.std.proofs.lemmas.List.Kept.{AllPairs-from_increasing}
use Rattle.std.proofs.lemmas.List.Sorted.{Contains-permutation, IsPermutation-sym}
use Rattle.std.proofs.lemmas.Map.Keys.{IsDistinct-IsPermutation, IsDistinct-cons, IsDistinct-head, IsDistinct-tail, apart_from_distinct}
use Rattle.st_model.specs.Lists.{has}
use Rattle.bidirected_form.specs.declared.arc.Arc.{Arc}
use Rattle.bidirected_form.specs.Digraph.{left_from}
use Rattle.bidirected_form.specs.Entering.{IsBefore}
use Rattle.bidirected_form.specs.Rows.{row_of, unmarked}
use Rattle.bidirected_form.proofs.Lookups.{Rise, Rise-rest}

unmarked-append : (marks : List Bool) (h : ℕ) (xs ys : List Arc) → unmarked marks h (xs ++ ys) ≡ unmarked marks h xs ++ unmarked marks h ys
unmarked-append marks h [] ys = refl
unmarked-append marks h (x ∷ xs) ys = rw (unmarked-append marks h xs ys) (by_case (get_or marks x.tail false))
  where
    by_case : (b : Bool) → cond b (unmarked marks h xs ++ unmarked marks h ys) ((x.tail, h) ∷ (unmarked marks h xs ++ unmarked marks h ys)) ≡ cond b (unmarked marks h xs) ((x.tail, h) ∷ unmarked marks h xs) ++ unmarked marks h ys
    by_case true = refl
    by_case false = refl

-- one arc more is seen, and found where its tail has no mark
pub seen_free : (marks : List Bool) (h : ℕ) (arcs : List Arc) (i : ℕ) (d : Arc) (first now : List (ℕ × ℕ)) → i < length arcs → IsFalse (get_or marks (get_or arcs i d).tail false) → now ≡ first ++ unmarked marks h (take i arcs) → now ++ ((get_or arcs i d).tail, h) ∷ [] ≡ first ++ unmarked marks h (take (i + 1) arcs)
seen_free marks h arcs i d first now below free is =
    let one : unmarked marks h (get_or arcs i d ∷ []) ≡ ((get_or arcs i d).tail, h) ∷ [] = rw free refl in
    rw (is, take_more arcs i d below, unmarked-append marks h (take i arcs) (get_or arcs i d ∷ []), one) (append_assoc first (unmarked marks h (take i arcs)) (((get_or arcs i d).tail, h) ∷ []))

pub seen_marked : (marks : List Bool) (h : ℕ) (arcs : List Arc) (i : ℕ) (d : Arc) (first now : List (ℕ × ℕ)) → i < length arcs → IsTrue (get_or marks (get_or arcs i d).tail false) → now ≡ first ++ unmarked marks h (take i arcs) → now ≡ first ++ unmarked marks h (take (i + 1) arcs)
seen_marked marks h arcs i d first now below marked is =
    let none : unmarked marks h (get_or arcs i d ∷ []) ≡ [] = rw marked refl in
    rw (take_more arcs i d below, unmarked-append marks h (take i arcs) (get_or arcs i d ∷ []), none, append-nil) is

contains_cons : {X : Type 0} (y : X) (ys : List X) (x : X) → Contains (y ∷ ys) x → (y ≡ x) ⊎ Contains ys x
contains_cons {X} y ys x h = go h.0 h.1 h.2
  where
    go : (k : ℕ) → k < length (y ∷ ys) → get_or (y ∷ ys) k x ≡ x → (y ≡ x) ⊎ Contains ys x
    go zero below is = inl is
    go (suc k) below is = inr (k, omega arith, is)

contains_later : {X : Type 0} (y : X) (ys : List X) (x : X) → Contains ys x → Contains (y ∷ ys) x
contains_later y ys x h = (suc h.0, omega (arith, h.1), h.2)

-- what is found in a row
abbrev pub IsFound : List Bool → ℕ → List Arc → ℕ → ℕ → Type 0
IsFound marks h arcs u v = (v ≡ h) × IsFalse (get_or marks u false) × IsSome (left_from arcs u)

pub row_found : (marks : List Bool) (h : ℕ) (arcs : List Arc) (u v : ℕ) → Contains (unmarked marks h arcs) (u, v) → IsFound marks h arcs u v
row_found marks h [] u v c = absurd (omega (arith, c.1))
row_found marks h (a ∷ arcs) u v c = by_case (get_or marks a.tail false) refl (row_found marks h arcs u v) c
  where
    some_later : (b : Bool) (o : Option ℕ) → IsSome o → IsSome (cond b (Some a.remaining) o)
    some_later true o h = refl
    some_later false o h = h

    later : IsFound marks h arcs u v → IsFound marks h (a ∷ arcs) u v
    later f = (f.0, f.1, some_later (eqb a.tail u) (left_from arcs u) f.2)

    by_case : (b : Bool) → get_or marks a.tail false ≡ b → (Contains (unmarked marks h arcs) (u, v) → IsFound marks h arcs u v) → Contains (cond b (unmarked marks h arcs) ((a.tail, h) ∷ unmarked marks h arcs)) (u, v) → IsFound marks h (a ∷ arcs) u v
    by_case true e rest c = later (rest c)
    by_case false e rest c =
        elim (contains_cons (a.tail, h) (unmarked marks h arcs) (u, v) c) [
          | inl same ↦ (ap (λ (p : ℕ × ℕ). p.1) (sym same), ap (λ (w : ℕ). get_or marks w false) (ap (λ (p : ℕ × ℕ). p.0) (sym same)) ∙ e, rw (eq-eqb a.tail u (ap (λ (p : ℕ × ℕ). p.0) same)) refl)
          | inr there ↦ later (rest there)
        ]

pub found_row : (marks : List Bool) (h : ℕ) (arcs : List Arc) (u : ℕ) → IsFalse (get_or marks u false) → IsSome (left_from arcs u) → Contains (unmarked marks h arcs) (u, h)
found_row marks h [] u free some = absurd (false≢true some)
found_row marks h (a ∷ arcs) u free some = by_case (eqb a.tail u) refl (get_or marks a.tail false) refl (found_row marks h arcs u free) some
  where
    in_rest : (m : Bool) → Contains (unmarked marks h arcs) (u, h) → Contains (cond m (unmarked marks h arcs) ((a.tail, h) ∷ unmarked marks h arcs)) (u, h)
    in_rest true c = c
    in_rest false c = contains_later (a.tail, h) (unmarked marks h arcs) (u, h) c

    by_case : (b : Bool) → eqb a.tail u ≡ b → (m : Bool) → get_or marks a.tail false ≡ m → (IsSome (left_from arcs u) → Contains (unmarked marks h arcs) (u, h)) → IsSome (cond b (Some a.remaining) (left_from arcs u)) → Contains (cond m (unmarked marks h arcs) ((a.tail, h) ∷ unmarked marks h arcs)) (u, h)
    by_case true e true f rest some = absurd (false≢true (sym free ∙ ap (λ (w : ℕ). get_or marks w false) (sym (eqb-true a.tail u e)) ∙ f))
    by_case true e false f rest some = (zero, omega arith, λ i. (eqb-true a.tail u e i, h))
    by_case false e m f rest some = in_rest m (rest some)

abbrev pub found_in : List Bool → List (List Arc) → List ℕ → List (ℕ × ℕ)
found_in marks rows members = flat_map (λ (v : ℕ). unmarked marks v (row_of rows v)) members

pub members_found : (marks : List Bool) (rows : List (List Arc)) (members : List ℕ) (u v : ℕ) → Contains (found_in marks rows members) (u, v) → IsTrue (has members v) × IsFalse (get_or marks u false) × IsSome (left_from (row_of rows v) u)
members_found marks rows [] u v c = absurd (omega (arith, c.1))
members_found marks rows (s ∷ members) u v c = by_case (members_found marks rows members u v) (Contains-append_cases (unmarked marks s (row_of rows s)) (found_in marks rows members) (u, v) c)
  where
    by_case : (Contains (found_in marks rows members) (u, v) → IsTrue (has members v) × IsFalse (get_or marks u false) × IsSome (left_from (row_of rows v) u)) → Contains (unmarked marks s (row_of rows s)) (u, v) ⊎ Contains (found_in marks rows members) (u, v) → IsTrue (has (s ∷ members) v) × IsFalse (get_or marks u false) × IsSome (left_from (row_of rows v) u)
    by_case rest (inl here) =
        let f = row_found marks s (row_of rows s) u v here in
        (or_left (eqb s v) (has members v) (eq-eqb s v (sym f.0)), f.1, subst (λ (w : ℕ). IsSome (left_from (row_of rows w) u)) (sym f.0) f.2)
    by_case rest (inr there) = let r = rest there in (or_right (eqb s v) (has members v) r.0, r.1, r.2)

pub found_members : (marks : List Bool) (rows : List (List Arc)) (members : List ℕ) (u v : ℕ) → IsTrue (has members v) → IsFalse (get_or marks u false) → IsSome (left_from (row_of rows v) u) → Contains (found_in marks rows members) (u, v)
found_members marks rows [] u v there free some = absurd (false≢true there)
found_members marks rows (s ∷ members) u v there free some = by_case (λ (h : IsTrue (has members v)). found_members marks rows members u v h free some) (or_cases (eqb s v) (has members v) there)
  where
    by_case : (IsTrue (has members v) → Contains (found_in marks rows members) (u, v)) → IsTrue (eqb s v) ⊎ IsTrue (has members v) → Contains (found_in marks rows (s ∷ members)) (u, v)
    by_case rest (inl same) = Contains-append_left (unmarked marks s (row_of rows s)) (found_in marks rows members) (u, v) (subst (λ (w : ℕ). Contains (unmarked marks w (row_of rows w)) (u, v)) (sym (eqb-true s v same)) (found_row marks v (row_of rows v) u free some))
    by_case rest (inr later) = Contains-append_right (unmarked marks s (row_of rows s)) (found_in marks rows members) (u, v) (rest later)

-- two arcs have the same ends
abbrev pub same_ends : ℕ × ℕ → ℕ × ℕ → Bool
same_ends x y = eqb x.0 y.0 && eqb x.1 y.1

distinct_append : (xs ys : List (ℕ × ℕ)) → IsDistinct same_ends xs → IsDistinct same_ends ys → AllByRecursion (λ x. AllByRecursion (λ y. same_ends x y ≡ false) ys) xs → IsDistinct same_ends (xs ++ ys)
unfolding IsDistinct
distinct_append [] ys hx hy apart = hy
distinct_append (x ∷ xs) ys hx hy apart = IsDistinct-cons same_ends x (xs ++ ys) (both xs (IsDistinct-head same_ends x xs hx)) (distinct_append xs ys (IsDistinct-tail same_ends x xs hx) hy apart.1)
  where
    both : (xs : List (ℕ × ℕ)) → AllByRecursion (λ y. same_ends x y ≡ false) xs → AllByRecursion (λ y. same_ends x y ≡ false) (xs ++ ys)
    both [] h = apart.0
    both (z ∷ zs) h = (h.0, both zs h.1)

-- the tails in a row that comes later differ
tails_differ : (marks : List Bool) (h t : ℕ) (arcs : List Arc) → ((k : ℕ) (d : Arc) → k < length arcs → t < (get_or arcs k d).tail) → AllByRecursion (λ (y : ℕ × ℕ). same_ends (t, h) y ≡ false) (unmarked marks h arcs)
tails_differ marks h t [] more = tt
tails_differ marks h t (a ∷ arcs) more = by_case (get_or marks a.tail false) (tails_differ marks h t arcs (λ k d below. more (suc k) d (omega (arith, below))))
  where
    differ : same_ends (t, h) (a.tail, h) ≡ false
    differ = let less = more zero a (omega arith) in rw (ne_eqb t a.tail (λ e. omega (arith, e, less))) refl

    by_case : (b : Bool) → AllByRecursion (λ (y : ℕ × ℕ). same_ends (t, h) y ≡ false) (unmarked marks h arcs) → AllByRecursion (λ (y : ℕ × ℕ). same_ends (t, h) y ≡ false) (cond b (unmarked marks h arcs) ((a.tail, h) ∷ unmarked marks h arcs))
    by_case true rest = rest
    by_case false rest = (differ, rest)

row_distinct : (marks : List Bool) (h : ℕ) (arcs : List Arc) → Rise arcs → IsDistinct same_ends (unmarked marks h arcs)
unfolding IsDistinct
row_distinct marks h [] rise = tt
row_distinct marks h (a ∷ arcs) rise = by_case (get_or marks a.tail false) (row_distinct marks h arcs (Rise-rest a arcs rise))
  where
    by_case : (b : Bool) → IsDistinct same_ends (unmarked marks h arcs) → IsDistinct same_ends (cond b (unmarked marks h arcs) ((a.tail, h) ∷ unmarked marks h arcs))
    by_case true rest = rest
    by_case false rest = IsDistinct-cons same_ends (a.tail, h) (unmarked marks h arcs) (tails_differ marks h a.tail arcs (λ k d below. rise zero (suc k) d (omega arith) (omega (arith, below)))) rest

-- the heads are those of the row
all_heads : (P : ℕ × ℕ → Type 0) (marks : List Bool) (h : ℕ) (arcs : List Arc) → ((t : ℕ) → P (t, h)) → AllByRecursion P (unmarked marks h arcs)
all_heads P marks h [] all = tt
all_heads P marks h (a ∷ arcs) all = by_case (get_or marks a.tail false) (all_heads P marks h arcs all)
  where
    by_case : (b : Bool) → AllByRecursion P (unmarked marks h arcs) → AllByRecursion P (cond b (unmarked marks h arcs) ((a.tail, h) ∷ unmarked marks h arcs))
    by_case true rest = rest
    by_case false rest = (all a.tail, rest)

all_append : (P : ℕ × ℕ → Type 0) (xs ys : List (ℕ × ℕ)) → AllByRecursion P xs → AllByRecursion P ys → AllByRecursion P (xs ++ ys)
all_append P [] ys hx hy = hy
all_append P (x ∷ xs) ys hx hy = (hx.0, all_append P xs ys hx.1 hy)

-- heads that come later differ
heads_differ : (marks : List Bool) (rows : List (List Arc)) (members : List ℕ) (t s : ℕ) → ((k : ℕ) → k < length members → s < get_or members k 0) → AllByRecursion (λ (y : ℕ × ℕ). same_ends (t, s) y ≡ false) (found_in marks rows members)
heads_differ marks rows [] t s more = tt
heads_differ marks rows (m ∷ members) t s more =
    all_append (λ (y : ℕ × ℕ). same_ends (t, s) y ≡ false) (unmarked marks m (row_of rows m)) (found_in marks rows members)
    (all_heads (λ (y : ℕ × ℕ). same_ends (t, s) y ≡ false) marks m (row_of rows m) (λ w. differ (eqb t w)))
    (heads_differ marks rows members t s (λ k below. more (suc k) (omega (arith, below))))
  where
    unlike : eqb s m ≡ false
    unlike = let less = more zero (omega arith) in ne_eqb s m (λ e. omega (arith, e, less))

    differ : (b : Bool) → (b && eqb s m) ≡ false
    differ true = unlike
    differ false = refl

pub found_distinct : (marks : List Bool) (rows : List (List Arc)) (members : List ℕ) → ((v : ℕ) → Rise (row_of rows v)) → AllPairs (λ x y. x < y) members → IsDistinct same_ends (found_in marks rows members)
unfolding IsDistinct
found_distinct marks rows [] rise up = tt
found_distinct marks rows (s ∷ members) rise up =
    distinct_append (unmarked marks s (row_of rows s)) (found_in marks rows members) (row_distinct marks s (row_of rows s) (rise s))
    (found_distinct marks rows members rise (λ i j d before below. up (suc i) (suc j) d (omega (arith, before)) (omega (arith, below))))
    (all_heads (λ x. AllByRecursion (λ y. same_ends x y ≡ false) (found_in marks rows members)) marks s (row_of rows s) (λ t. heads_differ marks rows members t s (λ k below. up zero (suc k) 0 (omega arith) (omega (arith, below)))))

-- pairs that aren't out of order, and differ, are in order
in_order : (a b c d : ℕ) → is_lt (ordering_then (nat_cmp c a) (nat_cmp d b)) ≡ false → (eqb a c && eqb b d) ≡ false → IsBefore (a, b) (c, d)
in_order a b c d up differ = by_case (ltb c a) refl (eqb c a) refl (ltb d b) refl (eqb d b) refl (subst (λ (t : Bool). t ≡ false) refl up)
  where
    by_case : (p : Bool) → ltb c a ≡ p → (q : Bool) → eqb c a ≡ q → (r : Bool) → ltb d b ≡ r → (s : Bool) → eqb d b ≡ s → is_lt (ordering_then (cond p Less (cond q Equal Greater)) (cond r Less (cond s Equal Greater))) ≡ false → IsBefore (a, b) (c, d)
    by_case true ep q eq r er s es h = absurd (false≢true (sym h))
    by_case false ep false eq r er s es h = inl (grind (arith, nat_tests))
    by_case false ep true eq true er s es h = absurd (false≢true (sym h))
    by_case false ep true eq false er true es h = absurd (false≢true (sym differ ∙ rw (eq-eqb a c (sym (eqb-true c a eq)), eq-eqb b d (sym (eqb-true d b es))) refl))
    by_case false ep true eq false er false es h = inr (sym (eqb-true c a eq), grind (arith, nat_tests))

before_trans : (x y z : ℕ × ℕ) → IsBefore x y → IsBefore y z → IsBefore x z
before_trans x y z (inl a) (inl b) = inl (omega (arith, a, b))
before_trans x y z (inl a) (inr b) = inl (omega (arith, a, b.0))
before_trans x y z (inr a) (inl b) = inl (omega (arith, a.0, b))
before_trans x y z (inr a) (inr b) = inr (a.0 ∙ b.0, omega (arith, a.1, b.1))

pub sorted_before : (xs : List (ℕ × ℕ)) → IsSorted (λ x y. ordering_then (nat_cmp x.0 y.0) (nat_cmp x.1 y.1)) xs → IsDistinct same_ends xs → AllPairs IsBefore xs
sorted_before xs up apart i j d before below = steps (j - i - 1) j (omega (arith, before)) below
  where
    step : (k : ℕ) → k + 1 < length xs → IsBefore (get_or xs k d) (get_or xs (k + 1) d)
    step k room = in_order (get_or xs k d).0 (get_or xs k d).1 (get_or xs (k + 1) d).0 (get_or xs (k + 1) d).1 (up k d (omega arith) room) (apart_from_distinct same_ends xs k (k + 1) d apart (omega arith) room)

    steps : (n j : ℕ) → j ≡ i + 1 + n → j < length xs → IsBefore (get_or xs i d) (get_or xs j d)
    steps zero j e room = let at : j ≡ i + 1 = omega (arith, e) in subst (λ (k : ℕ). IsBefore (get_or xs i d) (get_or xs k d)) (sym at) (step i (omega (arith, at, room)))
    steps (suc n) j e room =
        let at : j ≡ (i + 1 + n) + 1 = omega (arith, e) in
        subst (λ (k : ℕ). IsBefore (get_or xs i d) (get_or xs k d)) (sym at) (before_trans (get_or xs i d) (get_or xs (i + 1 + n) d) (get_or xs ((i + 1 + n) + 1) d) (steps n (i + 1 + n) refl (omega (arith, at, room))) (step (i + 1 + n) (omega (arith, at, room))))

same_ends-flips : (x y : ℕ × ℕ) → same_ends x y ≡ same_ends y x
same_ends-flips x y = rw (flip x.0 y.0, flip x.1 y.1) refl
  where
    flip : (a b : ℕ) → eqb a b ≡ eqb b a
    flip a b = grind (arith, nat_tests)

-- what was found, once it is sorted
pub sorted_found : (marks : List Bool) (rows : List (List Arc)) (members : List ℕ) (found : List (ℕ × ℕ)) → ((v : ℕ) → Rise (row_of rows v)) → IsStrictlyIncreasing members → IsPermutation (found_in marks rows members) found → IsSorted (λ x y. ordering_then (nat_cmp x.0 y.0) (nat_cmp x.1 y.1)) found → AllPairs IsBefore found
sorted_found marks rows members found rise up moved sorted =
    sorted_before found sorted (IsDistinct-IsPermutation same_ends same_ends-flips (found_in marks rows members) found moved (found_distinct marks rows members rise (AllPairs-from_increasing members up)))

pub exactly_found : (marks : List Bool) (rows : List (List Arc)) (members : List ℕ) (found : List (ℕ × ℕ)) → IsPermutation (found_in marks rows members) found → (u v : ℕ) → Contains found (u, v) ↔ (IsTrue (has members v) × IsFalse (get_or marks u false) × IsSome (left_from (row_of rows v) u))
exactly_found marks rows members found moved u v = (
  λ c. members_found marks rows members u v (Contains-permutation found (found_in marks rows members) (u, v) (IsPermutation-sym (found_in marks rows members) found moved) c),
  λ f. Contains-permutation (found_in marks rows members) found (u, v) moved (found_members marks rows members u v f.0 f.1 f.2),
)

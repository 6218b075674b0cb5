-- How often ids stand in lists, and how long lists are in which they stand equally often.
use Rattle.std.proofs.Common.{◌≡◌, ℕ, zero, suc, ◌+◌, ◌≤◌, Bool, true, false, cond, List, [], ◌∷◌, ◌++◌, length, map, refl, sym, ap, ◌∙◌, subst, arith, inl, inr}
use Rattle.std.specs.Prelude.{◌==◌, All, ◌⊎◌}
use Rattle.std.specs.List.{flat_map}
use Rattle.std.proofs.lemmas.Bool.Decides.{nat_tests}
use Rattle.std.proofs.lemmas.List.Elements.{All-nil, All-append, All-head, All-tail}
use Rattle.search_core.specs.Complete.{times}
use Rattle.search_core.proofs.Ids.{Among, times-append}
use Rattle.search_core.proofs.Look.{same_number}

-- what stands once at most is no more than what stands wherever it does
pub once_where : (a b : ℕ) → a ≤ 1 → (1 ≤ a → 1 ≤ b) → a ≤ b
once_where zero b few there = omega arith
once_where (suc a) b few there = up a b few (there (some a))
  where
    some : (n : ℕ) → 1 ≤ suc n
    some n = omega arith

    up : (m n : ℕ) → suc m ≤ 1 → 1 ≤ n → suc m ≤ n
    up m n h k = omega arith

-- the first of a list stands in it
pub times-head : (x y : ℕ) (ys : List ℕ) → y ≡ x → 1 ≤ times x (y ∷ ys)
times-head x y ys is = by_test (y == x) (same y x is) (times x ys)
  where
    same : (a b : ℕ) → a ≡ b → (a == b) ≡ true
    same a b h = grind (arith, nat_tests)

    by_test : (b : Bool) → b ≡ true → (n : ℕ) → 1 ≤ cond b 1 0 + n
    by_test b e n = rw e (omega arith)

pub times-tail : (x y : ℕ) (ys : List ℕ) → 1 ≤ times x ys → 1 ≤ times x (y ∷ ys)
times-tail x y ys h = more (cond (y == x) 1 0) (times x ys) h
  where
    more : (a b : ℕ) → 1 ≤ b → 1 ≤ a + b
    more a b k = omega arith

-- what stands in a list is its first, or stands in the rest
pub times-cases : (x y : ℕ) (ys : List ℕ) → 1 ≤ times x (y ∷ ys) → (y ≡ x) ⊎ (1 ≤ times x ys)
times-cases x y ys h = by_test (y == x) refl h
  where
    rest : (n : ℕ) → 1 ≤ 0 + n → 1 ≤ n
    rest n k = omega arith

    by_test : (b : Bool) → (y == x) ≡ b → 1 ≤ cond b 1 0 + times x ys → (y ≡ x) ⊎ (1 ≤ times x ys)
    by_test true is k = inl (same_number y x is)
    by_test false is k = inr (rest (times x ys) k)

-- the first doesn't stand in the rest of a list in which it stands once
pub times-twice : (x y : ℕ) (ys : List ℕ) → y ≡ x → 1 ≤ times x ys → times x (y ∷ ys) ≤ 1 → ⊥
times-twice x y ys is h once = by_test (y == x) (same y x is) (times x ys) h once
  where
    same : (a b : ℕ) → a ≡ b → (a == b) ≡ true
    same a b k = grind (arith, nat_tests)

    too_many : (n : ℕ) → 1 ≤ n → 1 + n ≤ 1 → ⊥
    too_many n k l = omega arith

    by_test : (b : Bool) → b ≡ true → (n : ℕ) → 1 ≤ n → cond b 1 0 + n ≤ 1 → ⊥
    by_test b e n k l = too_many n k (subst (λ (c : Bool). cond c 1 0 + n ≤ 1) e l)

pub times-left : (x : ℕ) (xs ys : List ℕ) → 1 ≤ times x xs → 1 ≤ times x (xs ++ ys)
times-left x xs ys h = rw (times-append x xs ys) (more (times x xs) (times x ys) h)
  where
    more : (a b : ℕ) → 1 ≤ a → 1 ≤ a + b
    more a b k = omega arith

pub times-right : (x : ℕ) (xs ys : List ℕ) → 1 ≤ times x ys → 1 ≤ times x (xs ++ ys)
times-right x xs ys h = rw (times-append x xs ys) (more (times x xs) (times x ys) h)
  where
    more : (a b : ℕ) → 1 ≤ b → 1 ≤ a + b
    more a b k = omega arith

-- what stands in two lists together stands in one of them
pub times-either : (x : ℕ) (xs ys : List ℕ) → 1 ≤ times x (xs ++ ys) → (1 ≤ times x xs) ⊎ (1 ≤ times x ys)
times-either x xs ys h = one_of_both (times x xs) (times x ys) (subst (λ (n : ℕ). 1 ≤ n) (times-append x xs ys) h)
  where
    one_of_both : (a b : ℕ) → 1 ≤ a + b → (1 ≤ a) ⊎ (1 ≤ b)
    one_of_both zero b k = inr (omega arith)
    one_of_both (suc a) b k = inl (omega arith)

-- what stands once in two lists together doesn't stand in both
pub times-not_both : (x : ℕ) (xs ys : List ℕ) → times x (xs ++ ys) ≤ 1 → 1 ≤ times x xs → 1 ≤ times x ys → ⊥
times-not_both x xs ys once h k = too_many (times x xs) (times x ys) (subst (λ (n : ℕ). n ≤ 1) (times-append x xs ys) once) h k
  where
    too_many : (a b : ℕ) → a + b ≤ 1 → 1 ≤ a → 1 ≤ b → ⊥
    too_many a b i j l = omega arith

-- who is among others has an id that stands among theirs
pub times_among : {X : Type 0} (f : X → ℕ) (xs : List X) (x : X) (a : ℕ) → Among xs x → f x ≡ a → 1 ≤ times a (map f xs)
times_among f [] x a h is = absurd h
times_among f (y ∷ ys) x a (inl same) is = times-head a (f y) (map f ys) (ap f same ∙ is)
times_among f (y ∷ ys) x a (inr h) is = times-tail a (f y) (map f ys) (times_among f ys x a h is)

-- two with one id are one, where it stands once
pub same_of_id : {X : Type 0} (f : X → ℕ) (xs : List X) (a : ℕ) (x y : X) → times a (map f xs) ≤ 1 → Among xs x → Among xs y → f x ≡ a → f y ≡ a → x ≡ y
same_of_id f [] a x y once p q i j = absurd p
same_of_id f (z ∷ zs) a x y once (inl p) (inl q) i j = sym p ∙ q
same_of_id f (z ∷ zs) a x y once (inl p) (inr q) i j = absurd (times-twice a (f z) (map f zs) (ap f p ∙ i) (times_among f zs y a q j) once)
same_of_id f (z ∷ zs) a x y once (inr p) (inl q) i j = absurd (times-twice a (f z) (map f zs) (ap f q ∙ j) (times_among f zs x a p i) once)
same_of_id f (z ∷ zs) a x y once (inr p) (inr q) i j = same_of_id f zs a x y (fewer (cond (f z == a) 1 0) (times a (map f zs)) once) p q i j
  where
    fewer : (m n : ℕ) → m + n ≤ 1 → n ≤ 1
    fewer m n h = omega arith

-- what holds of the id of each holds of each id that stands there
pub at_id : {X : Type 0} (f : X → ℕ) (Q : ℕ → Type 0) (xs : List X) (a : ℕ) → All (λ x. Q (f x)) xs → 1 ≤ times a (map f xs) → Q a
at_id f Q [] a all h = absurd (none h)
  where
    none : 1 ≤ 0 → ⊥
    none k = omega arith
at_id f Q (x ∷ xs) a all h =
    elim (times-cases a (f x) (map f xs) h) [
      | inl is ↦ subst Q is (All-head (λ y. Q (f y)) x xs all)
      | inr rest ↦ at_id f Q xs a (All-tail (λ y. Q (f y)) x xs all) rest
    ]

-- what holds of each in each list holds of each in all lists
pub All-flat_map : {X Y : Type 0} (P : Y → Type 0) (f : X → List Y) (xs : List X) → All (λ x. All P (f x)) xs → All P (flat_map f xs)
All-flat_map P f [] all = All-nil P
All-flat_map P f (x ∷ xs) all = All-append P (f x) (flat_map f xs) (All-head (λ y. All P (f y)) x xs all) (All-flat_map P f xs (All-tail (λ y. All P (f y)) x xs all))

-- the list without the first place of an id
abbrev without_id : ℕ → List ℕ → List ℕ
without_id a [] = []
without_id a (y ∷ ys) = cond (y == a) ys (y ∷ without_id a ys)

times-without : (a x : ℕ) (ys : List ℕ) → 1 ≤ times a ys → times x ys ≡ cond (a == x) 1 0 + times x (without_id a ys)
times-without a x [] h = absurd (none h)
  where
    none : 1 ≤ 0 → ⊥
    none k = omega arith
times-without a x (y ∷ ys) h = by_case (y == a) refl h (times-without a x ys)
  where
    rest : (n : ℕ) → 1 ≤ 0 + n → 1 ≤ n
    rest n k = omega arith

    later : (c d m n : ℕ) → m ≡ c + n → d + m ≡ c + (d + n)
    later c d m n e = omega arith

    by_case : (b : Bool) → (y == a) ≡ b → 1 ≤ cond b 1 0 + times a ys → (1 ≤ times a ys → times x ys ≡ cond (a == x) 1 0 + times x (without_id a ys))
        → cond (y == x) 1 0 + times x ys ≡ cond (a == x) 1 0 + times x (cond b ys (y ∷ without_id a ys))
    by_case true is k go = ap (λ n. cond (n == x) 1 0 + times x ys) (same_number y a is)
    by_case false is k go = later (cond (a == x) 1 0) (cond (y == x) 1 0) (times x ys) (times x (without_id a ys)) (go (rest (times a ys) k))

length-without : (a : ℕ) (ys : List ℕ) → 1 ≤ times a ys → length ys ≡ length (without_id a ys) + 1
length-without a [] h = absurd (none h)
  where
    none : 1 ≤ 0 → ⊥
    none k = omega arith
length-without a (y ∷ ys) h = by_case (y == a) h (length-without a ys)
  where
    rest : (n : ℕ) → 1 ≤ 0 + n → 1 ≤ n
    rest n k = omega arith

    one_more : (n : ℕ) → suc n ≡ n + 1
    one_more n = omega arith

    later : (m n : ℕ) → m ≡ n + 1 → suc m ≡ suc n + 1
    later m n e = omega arith

    by_case : (b : Bool) → 1 ≤ cond b 1 0 + times a ys → (1 ≤ times a ys → length ys ≡ length (without_id a ys) + 1) → length (y ∷ ys) ≡ length (cond b ys (y ∷ without_id a ys)) + 1
    by_case true k go = one_more (length ys)
    by_case false k go = later (length ys) (length (without_id a ys)) (go (rest (times a ys) k))

-- a list in which no id stands more often is no longer
pub length-times : (xs ys : List ℕ) → ((x : ℕ) → times x xs ≤ times x ys) → length xs ≤ length ys
length-times [] ys few = omega arith
length-times (a ∷ xs) ys few = longer (length xs) (length (without_id a ys)) (length ys) (length-without a ys there) (length-times xs (without_id a ys) (λ x. fewer (cond (a == x) 1 0) (times x xs) (times x (without_id a ys)) (times x ys) (few x) (times-without a x ys there)))
  where
    at_least : (m n : ℕ) → 1 ≤ m → m ≤ n → 1 ≤ n
    at_least m n h k = omega arith

    there : 1 ≤ times a ys
    there = at_least (times a (a ∷ xs)) (times a ys) (times-head a a xs refl) (few a)

    fewer : (c m n k : ℕ) → c + m ≤ k → k ≡ c + n → m ≤ n
    fewer c m n k h e = omega arith

    longer : (m n k : ℕ) → k ≡ n + 1 → m ≤ n → suc m ≤ k
    longer m n k e h = omega arith

-- what stands in a list of one is that one
pub times-single : (x y : ℕ) → 1 ≤ times x (y ∷ []) → y ≡ x
times-single x y h = elim (times-cases x y [] h) [ inl is ↦ is | inr none ↦ absurd (empty none) ]
  where
    empty : 1 ≤ 0 → ⊥
    empty k = omega arith

pub times-single_le : (x y : ℕ) → times x (y ∷ []) ≤ 1
times-single_le x y = by_test (y == x)
  where
    by_test : (b : Bool) → cond b 1 0 + 0 ≤ 1
    by_test true = omega arith
    by_test false = omega arith

-- what stands once at most in two lists, and in one of them alone, is in both at most once with what stands in neither
pub times-node_le : (x y : ℕ) (xs ys : List ℕ) → times x xs ≤ 1 → times x ys ≤ 1 → (y ≡ x → 1 ≤ times x xs → ⊥) → (y ≡ x → 1 ≤ times x ys → ⊥)
    → (1 ≤ times x xs → 1 ≤ times x ys → ⊥) → times x (y ∷ (xs ++ ys)) ≤ 1
times-node_le x y xs ys few more first second both = rw (times-append x xs ys) (by_test (y == x) refl)
  where
    alone : (m n : ℕ) → (1 ≤ m → ⊥) → (1 ≤ n → ⊥) → 1 + (m + n) ≤ 1
    alone zero zero h k = omega arith
    alone zero (suc n) h k = absurd (k (omega arith))
    alone (suc m) n h k = absurd (h (omega arith))

    neither : (m n : ℕ) → m ≤ 1 → n ≤ 1 → (1 ≤ m → 1 ≤ n → ⊥) → 0 + (m + n) ≤ 1
    neither zero n h k l = omega arith
    neither (suc m) zero h k l = omega arith
    neither (suc m) (suc n) h k l = absurd (l (omega arith) (omega arith))

    by_test : (b : Bool) → (y == x) ≡ b → cond b 1 0 + (times x xs + times x ys) ≤ 1
    by_test true is = alone (times x xs) (times x ys) (first (same_number y x is)) (second (same_number y x is))
    by_test false is = neither (times x xs) (times x ys) few more both

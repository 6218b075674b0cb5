-- Ids of nodes that were made: each once, with one branch.
use Rattle.std.proofs.Common.{◌≡◌, ℕ, zero, suc, ◌+◌, ◌<◌, ◌≤◌, Bool, true, cond, List, [], ◌∷◌, ◌++◌, refl, sym, ◌∙◌, subst, arith, inl, inr}
use Rattle.std.specs.Prelude.{◌==◌, Contains, ◌⊎◌}
use Rattle.std.specs.List.{flat_map}
use Rattle.std.proofs.lemmas.Bool.Decides.{nat_tests}
use Rattle.st_model.specs.declared.split_at.SplitAt.{SplitAt}
use Rattle.st_model.specs.declared.branch.Branch.{Branch}
use Rattle.cut_packing.specs.declared.packing.Packing.{Packing}
use Rattle.search_core.specs.declared.done.Done.{Done}
use Rattle.search_core.specs.declared.done.Done.TheVariants.{Split}
use Rattle.search_core.specs.Complete.{IsMade, root, inside_of, outside_of, half_ids, made_ids, times}

-- membership by recursion
abbrev pub Among : {X : Type 0} → List X → X → Type 0
Among [] x = ⊥
Among (y ∷ ys) x = (y ≡ x) ⊎ Among ys x

pub among : {X : Type 0} (xs : List X) (x : X) → Contains xs x → Among xs x
among [] x (k, below, is) = absurd (no_place k below)
  where
    no_place : (k : ℕ) → k < 0 → ⊥
    no_place k h = omega arith
among (y ∷ ys) x (zero, below, is) = inl is
among (y ∷ ys) x (suc k, below, is) = inr (among ys x (k, omega arith, is))

pub times-append : (id : ℕ) (xs ys : List ℕ) → times id (xs ++ ys) ≡ times id xs + times id ys
times-append id [] ys = by_zero (times id ys)
  where
    by_zero : (n : ℕ) → n ≡ 0 + n
    by_zero n = omega arith
times-append id (x ∷ xs) ys = by_parts (cond (x == id) 1 0) _ _ _ (times-append id xs ys)
  where
    by_parts : (a b c d : ℕ) → b ≡ c + d → a + b ≡ a + c + d
    by_parts a b c d e = omega arith

-- what stands among the halves of a record stands among those of all
pub half_times : (done : List Done) (d : Done) (x : ℕ) → Among done d → times x (half_ids d) ≤ times x (flat_map half_ids done)
half_times [] d x h = absurd h
half_times (y ∷ ys) d x (inl is) = rw (times-append x (half_ids y) (flat_map half_ids ys)) (subst (λ (e : Done). times x (half_ids e) ≤ times x (half_ids y) + times x (flat_map half_ids ys)) is (more (times x (half_ids y)) (times x (flat_map half_ids ys))))
  where
    more : (a b : ℕ) → a ≤ a + b
    more a b = omega arith
half_times (y ∷ ys) d x (inr h) = rw (times-append x (half_ids y) (flat_map half_ids ys)) (more _ _ _ (half_times ys d x h))
  where
    more : (a b c : ℕ) → a ≤ c → a ≤ b + c
    more a b c h = omega arith

-- two records with a half of one id are one
pub same_record : (done : List Done) (d e : Done) (x : ℕ) → times x (flat_map half_ids done) ≤ 1 → Among done d → Among done e → 1 ≤ times x (half_ids d) → 1 ≤ times x (half_ids e) → d ≡ e
same_record [] d e x once a b p q = absurd a
same_record (y ∷ ys) d e x once a b p q = by_place a b (λ k i j. same_record ys d e x k i j p q)
  where
    sum : times x (half_ids y) + times x (flat_map half_ids ys) ≤ 1
    sum = subst (λ (n : ℕ). n ≤ 1) (times-append x (half_ids y) (flat_map half_ids ys)) once

    too_many : (a b c d : ℕ) → a + b ≤ 1 → c ≤ b → 1 ≤ a → 1 ≤ c → ⊥
    too_many a b c d h k l m = omega arith

    fewer : (a b : ℕ) → a + b ≤ 1 → b ≤ 1
    fewer a b h = omega arith

    here : (f : Done) → y ≡ f → 1 ≤ times x (half_ids f) → 1 ≤ times x (half_ids y)
    here f is h = subst (λ (g : Done). 1 ≤ times x (half_ids g)) (sym is) h

    by_place : Among (y ∷ ys) d → Among (y ∷ ys) e → (times x (flat_map half_ids ys) ≤ 1 → Among ys d → Among ys e → d ≡ e) → d ≡ e
    by_place (inl i) (inl j) rest = sym i ∙ j
    by_place (inl i) (inr j) rest = absurd (too_many _ _ (times x (half_ids e)) 0 sum (half_times ys e x j) (here d i p) q)
    by_place (inr i) (inl j) rest = absurd (too_many _ _ (times x (half_ids d)) 0 sum (half_times ys d x i) (here e j q) p)
    by_place (inr i) (inr j) rest = rest (fewer _ _ sum) i j

inside_times : (id : ℕ) (at : SplitAt) (i o : ℕ) (P : Packing) → 1 ≤ times i (half_ids (Split id at i o P))
inside_times id at i o P = by_tests (i == i) (itself i)
  where
    itself : (a : ℕ) → (a == a) ≡ true
    itself a = grind (arith, nat_tests)

    by_tests : (b : Bool) → b ≡ true → 1 ≤ cond b 1 0 + (cond (o == i) 1 0 + 0)
    by_tests b e = rw e (omega arith)

outside_times : (id : ℕ) (at : SplitAt) (i o : ℕ) (P : Packing) → 1 ≤ times o (half_ids (Split id at i o P))
outside_times id at i o P = by_tests (o == o) (itself o)
  where
    itself : (a : ℕ) → (a == a) ≡ true
    itself a = grind (arith, nat_tests)

    by_tests : (b : Bool) → b ≡ true → 1 ≤ cond (i == o) 1 0 + (cond b 1 0 + 0)
    by_tests b e = rw e (omega arith)

-- no id was made twice
abbrev pub AreApart : List Done → Type 0
AreApart done = (id : ℕ) → times id (made_ids done) ≤ 1

halves_once : (done : List Done) (x : ℕ) → AreApart done → times x (flat_map half_ids done) ≤ 1
halves_once done x apart = fewer _ _ (apart x)
  where
    fewer : (a b : ℕ) → a + b ≤ 1 → b ≤ 1
    fewer a b h = omega arith

-- 0 is the id of no half
zero_apart : (done : List Done) (d : Done) (x : ℕ) → AreApart done → Contains done d → 1 ≤ times x (half_ids d) → 0 ≡ x → ⊥
zero_apart done d x apart there h is = too_many _ _ (apart 0) (half_times done d 0 (among done d there)) (subst (λ (n : ℕ). 1 ≤ times n (half_ids d)) (sym is) h)
  where
    too_many : (a c : ℕ) → 1 + a ≤ 1 → c ≤ a → 1 ≤ c → ⊥
    too_many a c h k l = omega arith

-- the halves of a split have two ids
twins_apart : (done : List Done) (id : ℕ) (at : SplitAt) (i o : ℕ) (P : Packing) → AreApart done → Contains done (Split id at i o P) → i ≡ o → ⊥
twins_apart done id at i o P apart there is = too_many _ (halves_once done o apart) (both (i == o) (o == o) (sames i o is) (sames o o refl)) (half_times done (Split id at i o P) o (among done (Split id at i o P) there))
  where
    sames : (a b : ℕ) → a ≡ b → (a == b) ≡ true
    sames a b h = grind (arith, nat_tests)

    both : (p q : Bool) → p ≡ true → q ≡ true → 2 ≤ cond p 1 0 + (cond q 1 0 + 0)
    both p q e g = rw (e, g) (omega arith)

    too_many : (a : ℕ) {b : ℕ} → a ≤ 1 → 2 ≤ b → b ≤ a → ⊥
    too_many a h k l = omega arith

-- under one id one branch was made
pub one_branch : (R : Branch) (done : List Done) → AreApart done → (a b : ℕ) (B C : Branch) → IsMade R done a B → IsMade R done b C → a ≡ b → B ≡ C
one_branch R done apart a b B C root root e = refl
one_branch R done apart a b B C root (inside_of {id} {at} {i} {o} {P} c m) e = absurd (zero_apart done (Split id at i o P) i apart c (inside_times id at i o P) e)
one_branch R done apart a b B C root (outside_of {id} {at} {i} {o} {P} c m) e = absurd (zero_apart done (Split id at i o P) o apart c (outside_times id at i o P) e)
one_branch R done apart a b B C (inside_of {id} {at} {i} {o} {P} c m) root e = absurd (zero_apart done (Split id at i o P) i apart c (inside_times id at i o P) (sym e))
one_branch R done apart a b B C (outside_of {id} {at} {i} {o} {P} c m) root e = absurd (zero_apart done (Split id at i o P) o apart c (outside_times id at i o P) (sym e))
one_branch R done apart a b B C (inside_of {id} {at} {i} {o} {P} {B = B'} c m) (inside_of {id = id'} {at = at'} {i = i'} {o = o'} {P = P'} {B = C'} c' m') e =
    let same : Split id at i o P ≡ Split id' at' i' o' P' = same_record done (Split id at i o P) (Split id' at' i' o' P') i (halves_once done i apart) (among done _ c) (among done _ c') (inside_times id at i o P) (subst (λ (n : ℕ). 1 ≤ times n (half_ids (Split id' at' i' o' P'))) (sym e) (inside_times id' at' i' o' P')) in
    let ids : id ≡ id' = cc in
    let places : at ≡ at' = cc in
    let branches = one_branch R done apart id id' B' C' m m' ids in
    rw (branches, places) refl
one_branch R done apart a b B C (outside_of {id} {at} {i} {o} {P} {B = B'} c m) (outside_of {id = id'} {at = at'} {i = i'} {o = o'} {P = P'} {B = C'} c' m') e =
    let same : Split id at i o P ≡ Split id' at' i' o' P' = same_record done (Split id at i o P) (Split id' at' i' o' P') o (halves_once done o apart) (among done _ c) (among done _ c') (outside_times id at i o P) (subst (λ (n : ℕ). 1 ≤ times n (half_ids (Split id' at' i' o' P'))) (sym e) (outside_times id' at' i' o' P')) in
    let ids : id ≡ id' = cc in
    let places : at ≡ at' = cc in
    let branches = one_branch R done apart id id' B' C' m m' ids in
    rw (branches, places) refl
one_branch R done apart a b B C (inside_of {id} {at} {i} {o} {P} {B = B'} c m) (outside_of {id = id'} {at = at'} {i = i'} {o = o'} {P = P'} {B = C'} c' m') e =
    let same : Split id at i o P ≡ Split id' at' i' o' P' = same_record done (Split id at i o P) (Split id' at' i' o' P') i (halves_once done i apart) (among done _ c) (among done _ c') (inside_times id at i o P) (subst (λ (n : ℕ). 1 ≤ times n (half_ids (Split id' at' i' o' P'))) (sym e) (outside_times id' at' i' o' P')) in
    let insides : i ≡ i' = cc in
    absurd (twins_apart done id' at' i' o' P' apart c' (sym insides ∙ e))
one_branch R done apart a b B C (outside_of {id} {at} {i} {o} {P} {B = B'} c m) (inside_of {id = id'} {at = at'} {i = i'} {o = o'} {P = P'} {B = C'} c' m') e =
    let same : Split id at i o P ≡ Split id' at' i' o' P' = same_record done (Split id at i o P) (Split id' at' i' o' P') o (halves_once done o apart) (among done _ c) (among done _ c') (outside_times id at i o P) (subst (λ (n : ℕ). 1 ≤ times n (half_ids (Split id' at' i' o' P'))) (sym e) (inside_times id' at' i' o' P')) in
    let insides : i ≡ i' = cc in
    absurd (twins_apart done id at i o P apart c (insides ∙ sym e))

-- what was made stands among the ids that were
pub made_times : (R : Branch) (done : List Done) (id : ℕ) (B : Branch) → IsMade R done id B → 1 ≤ times id (made_ids done)
made_times R done id B root = at_first (times 0 (flat_map half_ids done))
  where
    at_first : (n : ℕ) → 1 ≤ 1 + n
    at_first n = omega arith
made_times R done id B (inside_of {id = a} {at} {i} {o} {P} c m) = later _ _ _ (inside_times a at i o P) (half_times done (Split a at i o P) i (among done _ c))
  where
    later : (a b c : ℕ) → 1 ≤ a → a ≤ b → 1 ≤ c + b
    later a b c h k = omega arith
made_times R done id B (outside_of {id = a} {at} {i} {o} {P} c m) = later _ _ _ (outside_times a at i o P) (half_times done (Split a at i o P) o (among done _ c))
  where
    later : (a b c : ℕ) → 1 ≤ a → a ≤ b → 1 ≤ c + b
    later a b c h k = omega arith

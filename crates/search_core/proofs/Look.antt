-- What is found in lists of nodes and of workers after a change.
use Rattle.std.proofs.Common.{◌≡◌, ℕ, zero, suc, ◌<◌, Bool, true, false, cond, List, [], ◌∷◌, length, Option, Some, None, refl, ap, ◌∙◌, subst, arith}
use Rattle.std.specs.Prelude.{◌==◌, find, slice_get, All}
use Rattle.std.specs.Option.{option_map_or}
use Rattle.std.specs.List.{AllByRecursion}
use Rattle.std.proofs.lemmas.Bool.Decides.{nat_tests}
use Rattle.std.proofs.lemmas.List.Elements.{All-from_recursion, recursion_from_All}
use Rattle.search_core.specs.declared.made.Made.{Made}
use Rattle.search_core.specs.State.{changed_at, has_id, with_made}

pub same_number : (a b : ℕ) → (a == b) ≡ true → a ≡ b
same_number a b h = grind (arith, nat_tests)

-- what is read of any place, where the change doesn't show
pub read-unchanged : {X Y : Type 0} (F : Option X → Y) (xs : List X) (k j : ℕ) (f : X → X) → ((x : X) → F (Some (f x)) ≡ F (Some x)) → F (slice_get (changed_at xs k f) j) ≡ F (slice_get xs j)
read-unchanged F [] k j f same = refl
read-unchanged F (x ∷ xs) zero zero f same = same x
read-unchanged F (x ∷ xs) zero (suc j) f same = refl
read-unchanged F (x ∷ xs) (suc k) zero f same = refl
read-unchanged F (x ∷ xs) (suc k) (suc j) f same = read-unchanged F xs k j f same

-- what stands at the place of the change
pub read-same : {X : Type 0} (xs : List X) (k : ℕ) (f : X → X) (x : X) → slice_get xs k ≡ Some x → slice_get (changed_at xs k f) k ≡ Some (f x)
read-same [] k f x e = absurd cc
read-same (y ∷ ys) zero f x e = let same : y ≡ x = cc in ap (λ z. Some (f z)) same
read-same (y ∷ ys) (suc k) f x e = read-same ys k f x e

-- and at another place
pub read-other : {X : Type 0} (xs : List X) (k j : ℕ) (f : X → X) → (k == j) ≡ false → slice_get (changed_at xs k f) j ≡ slice_get xs j
read-other [] k j f apart = refl
read-other (y ∷ ys) zero zero f apart = absurd cc
read-other (y ∷ ys) zero (suc j) f apart = refl
read-other (y ∷ ys) (suc k) zero f apart = refl
read-other (y ∷ ys) (suc k) (suc j) f apart = read-other ys k j f (one_less k j apart)
  where
    one_less : (a b : ℕ) → (suc a == suc b) ≡ false → (a == b) ≡ false
    one_less a b h = grind (arith, nat_tests)

pub stands : {X : Type 0} (xs : List X) (k : ℕ) → k < length xs → (x : X) × (slice_get xs k ≡ Some x)
stands [] k below = absurd (no_place k below)
  where
    no_place : (k : ℕ) → k < 0 → ⊥
    no_place k h = omega arith
stands (x ∷ xs) zero below = (x, refl)
stands (x ∷ xs) (suc k) below = stands xs k (omega arith)

-- the node that was changed is found
pub find-same : (nodes : List Made) (id : ℕ) (f : Made → Made) (m : Made) → ((m : Made) → (f m).node.id ≡ m.node.id) → find (has_id id) nodes ≡ Some m → find (has_id id) (with_made nodes id f) ≡ Some (f m)
find-same [] id f m same e = absurd cc
find-same (x ∷ xs) id f m same e = by_case (has_id id x) refl e (find-same xs id f m same)
  where
    by_case : (b : Bool) → has_id id x ≡ b → cond b (Some x) (find (has_id id) xs) ≡ Some m → (find (has_id id) xs ≡ Some m → find (has_id id) (with_made xs id f) ≡ Some (f m)) → find (has_id id) (cond b (f x ∷ xs) (x ∷ with_made xs id f)) ≡ Some (f m)
    by_case true is e rest = let there : x ≡ m = cc in let test : has_id id (f x) ≡ true = ap (λ (n : ℕ). id == n) (same x) ∙ is in rw test (ap (λ (a : Made). Some (f a)) there)
    by_case false is e rest = rw is (rest e)

-- and any other one as before
pub find-other : (nodes : List Made) (id j : ℕ) (f : Made → Made) → ((m : Made) → (f m).node.id ≡ m.node.id) → (j == id) ≡ false → find (has_id j) (with_made nodes id f) ≡ find (has_id j) nodes
find-other [] id j f same apart = refl
find-other (x ∷ xs) id j f same apart = by_case (has_id id x) refl (find-other xs id j f same apart)
  where
    not_both : (a b c : ℕ) → (b == a) ≡ false → (a == c) ≡ true → (b == c) ≡ false
    not_both a b c h k = grind (arith, nat_tests)

    by_case : (b : Bool) → has_id id x ≡ b → find (has_id j) (with_made xs id f) ≡ find (has_id j) xs → find (has_id j) (cond b (f x ∷ xs) (x ∷ with_made xs id f)) ≡ cond (has_id j x) (Some x) (find (has_id j) xs)
    by_case true is rest = rw (same x, not_both id j x.node.id apart is) refl
    by_case false is rest = rw rest refl

-- what holds of each node, and of the changed one, holds after the change
pub all-with_made_at : (P : Made → Type 0) (nodes : List Made) (id : ℕ) (f : Made → Made) (m : Made) → find (has_id id) nodes ≡ Some m → P (f m) → All P nodes → All P (with_made nodes id f)
all-with_made_at P nodes id f m found here all = All-from_recursion P _ (by_list nodes found (recursion_from_All P nodes all))
  where
    by_list : (ms : List Made) → find (has_id id) ms ≡ Some m → AllByRecursion P ms → AllByRecursion P (with_made ms id f)
    by_list [] e h = h
    by_list (x ∷ xs) e h = by_case (has_id id x) e (λ k. by_list xs k h.1)
      where
        by_case : (b : Bool) → cond b (Some x) (find (has_id id) xs) ≡ Some m → (find (has_id id) xs ≡ Some m → AllByRecursion P (with_made xs id f)) → AllByRecursion P (cond b (f x ∷ xs) (x ∷ with_made xs id f))
        by_case true e rest = let there : m ≡ x = cc in (subst (λ (a : Made). P (f a)) there here, h.1)
        by_case false e rest = (h.0, rest e)

-- what is asked of a node that is there
pub asked : (t : Made → Bool) (o : Option Made) → option_map_or t o false ≡ true → (m : Made) × (o ≡ Some m) × (t m ≡ true)
asked t None h = absurd cc
asked t (Some m) h = (m, refl, h)

-- Lists of workers in which one is changed.
use Rattle.std.proofs.Common.{◌≡◌, ℕ, zero, suc, ◌+◌, ◌<◌, ◌≤◌, min, Bool, true, false, cond, get_or, List, [], ◌∷◌, length, Some, refl, ap, arith}
use Rattle.std.specs.Prelude.{All, slice_get}
use Rattle.std.specs.List.{AllByRecursion}
use Rattle.std.proofs.lemmas.List.Elements.{All-from_recursion, recursion_from_All}
use Rattle.st_model.specs.Lists.{total}
use Rattle.search_core.specs.declared.worker.Worker.{Worker}
use Rattle.search_core.specs.State.{changed_at}
use Rattle.search_core.specs.Kept.{least_offered}

-- what holds of each, and of the changed one, holds after the change
pub all-changed : {X : Type 0} (P Q : X → Type 0) (xs : List X) (k : ℕ) (f : X → X) → ((x : X) → P x → Q x) → ((x : X) → slice_get xs k ≡ Some x → P x → Q (f x)) → All P xs → All Q (changed_at xs k f)
all-changed {X} P Q xs k f same here all = All-from_recursion Q _ (by_list xs k here (recursion_from_All P xs all))
  where
    rest : (ys : List X) → AllByRecursion P ys → AllByRecursion Q ys
    rest [] h = h
    rest (y ∷ ys) h = (same y h.0, rest ys h.1)

    by_list : (ys : List X) (k : ℕ) → ((x : X) → slice_get ys k ≡ Some x → P x → Q (f x)) → AllByRecursion P ys → AllByRecursion Q (changed_at ys k f)
    by_list [] k here h = h
    by_list (y ∷ ys) zero here h = (here y refl h.0, rest ys h.1)
    by_list (y ∷ ys) (suc k) here h = (same y h.0, by_list ys k here h.1)

-- a sum in which one term is changed
pub total-changed : {X : Type 0} (h : X → ℕ) (xs : List X) (k : ℕ) (f : X → X) (x : X) → slice_get xs k ≡ Some x → total h (changed_at xs k f) + h x ≡ total h xs + h (f x)
total-changed h [] k f x e = absurd cc
total-changed h (y ∷ ys) zero f x e = let same : y ≡ x = cc in rw same (swap (h (f x)) (h x) (total h ys))
  where
    swap : (a b c : ℕ) → a + c + b ≡ b + c + a
    swap a b c = omega arith
total-changed h (y ∷ ys) (suc k) f x e = moved (h y) _ _ _ _ (total-changed h ys k f x e)
  where
    moved : (a b c d g : ℕ) → b + c ≡ d + g → a + b + c ≡ a + d + g
    moved a b c d g e = omega arith

-- and in which none is
pub total-unchanged : {X : Type 0} (h : X → ℕ) (xs : List X) (k : ℕ) (f : X → X) → ((x : X) → h (f x) ≡ h x) → total h (changed_at xs k f) ≡ total h xs
total-unchanged h [] k f same = refl
total-unchanged h (y ∷ ys) zero f same = ap (λ n. n + total h ys) (same y)
total-unchanged h (y ∷ ys) (suc k) f same = ap (λ n. h y + n) (total-unchanged h ys k f same)

-- the least offer stays where no offer is changed
pub least-unchanged : (start : ℕ) (xs : List Worker) (k : ℕ) (f : Worker → Worker) → ((x : Worker) → (f x).offered ≡ x.offered) → least_offered start (changed_at xs k f) ≡ least_offered start xs
least-unchanged start [] k f same = refl
least-unchanged start (y ∷ ys) zero f same = ap (λ n. min n (least_offered start ys)) (same y)
least-unchanged start (y ∷ ys) (suc k) f same = ap (λ n. min y.offered n) (least-unchanged start ys k f same)

-- and falls to an offer
pub least-offer : (start value : ℕ) (xs : List Worker) (k : ℕ) (f : Worker → Worker) → ((x : Worker) → (f x).offered ≡ min x.offered value) → k < length xs → least_offered start (changed_at xs k f) ≡ min (least_offered start xs) value
least-offer start value [] k f same below = absurd (no_place k below)
  where
    no_place : (k : ℕ) → k < 0 → ⊥
    no_place k h = omega arith
least-offer start value (y ∷ ys) zero f same below = rw (same y) (regroup y.offered value (least_offered start ys))
  where
    regroup : (a b c : ℕ) → min (min a b) c ≡ min (min a c) b
    regroup a b c = omega arith
least-offer start value (y ∷ ys) (suc k) f same below = rw (least-offer start value ys k f same (omega arith)) (regroup y.offered (least_offered start ys) value)
  where
    regroup : (a b c : ℕ) → min a (min b c) ≡ min (min a b) c
    regroup a b c = omega arith

-- it is at most the start cost
pub least-start : (start : ℕ) (xs : List Worker) → least_offered start xs ≤ start
least-start start [] = omega arith
least-start start (y ∷ ys) = below y.offered (least_offered start ys) start (least-start start ys)
  where
    below : (a b c : ℕ) → b ≤ c → min a b ≤ c
    below a b c h = omega arith

-- a term is at most the sum
pub total-term : {X : Type 0} (h : X → ℕ) (xs : List X) (k : ℕ) (d : X) → k < length xs → h (get_or xs k d) ≤ total h xs
total-term h [] k d below = absurd (no_place k below)
  where
    no_place : (k : ℕ) → k < 0 → ⊥
    no_place k h = omega arith
total-term h (x ∷ xs) zero d below = first (h x) (total h xs)
  where
    first : (a b : ℕ) → a ≤ a + b
    first a b = omega arith
total-term h (x ∷ xs) (suc k) d below = later _ _ (h x) (total-term h xs k d (omega arith))
  where
    later : (a b c : ℕ) → a ≤ b → a ≤ c + b
    later a b c h = omega arith

-- a count is at most the length
pub count-length : {X : Type 0} (t : X → Bool) (xs : List X) → total (λ x. cond (t x) 1 0) xs ≤ length xs
count-length t [] = omega arith
count-length t (x ∷ xs) = by_case (t x) (count-length t xs)
  where
    by_case : (b : Bool) → total (λ x. cond (t x) 1 0) xs ≤ length xs → cond b 1 0 + total (λ x. cond (t x) 1 0) xs ≤ suc (length xs)
    by_case true h = omega arith
    by_case false h = omega arith

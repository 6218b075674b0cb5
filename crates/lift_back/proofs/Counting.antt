-- The vertices that pass a test, and how many they are.
use Rattle.std.proofs.Common.{◌≡◌, ◌≢◌, ℕ, zero, suc, ◌+◌, ◌<◌, ◌≤◌, Bool, true, false, cond, not, ◌&&◌, ◌||◌, [], ◌∷◌, ◌++◌, length, get_or, refl, sym, ap, ◌∙◌, arith, inl, inr, eq-eqb, ◌-◌, filter}
use Rattle.std.specs.Prelude.{IsTrue, ◌==◌, slice_index}
use Rattle.std.specs.List.{AllByRecursion}
use Rattle.std.specs.List.Sorted.{IsStrictlyIncreasing}
use Rattle.std.proofs.lemmas.Bool.{cases_lt, eqb-true, false≢true, ne_eqb}
use Rattle.std.proofs.lemmas.List.{get_or_append_left}
use Rattle.std.proofs.Math.Seq.{get_or-append_right}
use Rattle.std.proofs.lemmas.List.Elements.{All-from_recursion, filter-append}
use Rattle.std.proofs.lemmas.List.Kept.{IsStrictlyIncreasing-filter}
use Rattle.std.proofs.lemmas.List.Folds.{list_any-append}
use Rattle.std.proofs.lemmas.Map.Views.{any-filter_same}
use Rattle.st_model.specs.Lists.{has, sum_to, up_to}
use Rattle.st_model.specs.Network.{IsVertex}
use Rattle.st_model.specs.Branch.{IsVertexSet}
use Rattle.st_model.proofs.Sums.{length-up_to, sum_to_same}
use Rattle.lift_back.specs.Keeping.{count_to}
use Rattle.lift_back.proofs.Trees.{all_append, all_then, all_kept}

-- the numbers from 1 on, by their places
up_to_at : (n k : ℕ) → k < n → slice_index (up_to n) k ≡ k + 1
up_to_at zero k h = absurd (omega arith)
up_to_at (suc n) k h = elim (cases_lt k n) [
  | inl less ↦ get_or_append_left (up_to n) (suc n ∷ []) 0 k (let len = length-up_to n in omega arith) ∙ up_to_at n k less
  | inr more ↦
      let len = length-up_to n in
      let none : k - length (up_to n) ≡ 0 = omega arith in
      let place : k ≡ n = omega arith in
      get_or-append_right (up_to n) (suc n ∷ []) k 0 (omega arith) ∙ (ap (λ i. get_or (suc n ∷ []) i 0) none ∙ (omega arith))
]

up_to_rises : (n : ℕ) → IsStrictlyIncreasing (up_to n)
up_to_rises n k within =
    let len = length-up_to n in
    let here = up_to_at n k (omega arith) in
    let next = up_to_at n (k + 1) (omega arith) in
    omega arith

-- they are just the vertices
vertices_up_to : (n : ℕ) → AllByRecursion (IsVertex n) (up_to n)
vertices_up_to n = by_recursion n (omega arith)
  where
    by_recursion : (k : ℕ) → k ≤ n → AllByRecursion (IsVertex n) (up_to k)
    by_recursion zero h = tt
    by_recursion (suc k) h = all_append (IsVertex n) (up_to k) (suc k ∷ []) (by_recursion k (omega arith)) ((omega arith, h), tt)

pub has-up_to : (n v : ℕ) → IsVertex n v → IsTrue (has (up_to n) v)
has-up_to zero v h = let low = h.0 in let high = h.1 in absurd (omega arith)
has-up_to (suc n) v h = list_any-append (λ x. x == v) (up_to n) (suc n ∷ []) ∙ elim (cases_lt v (suc n)) [
  | inl less ↦ rw (has-up_to n v (h.0, omega arith)) refl
  | inr more ↦ let low = h.1 in let same : suc n ≡ v = omega arith in last (has (up_to n) v) ((suc n == v) || false) (let here = eq-eqb (suc n) v same in rw here refl)
]
  where
    last : (a b : Bool) → b ≡ true → (a || b) ≡ true
    last true b e = refl
    last false b e = e

-- whether a vertex is among those that pass a test
pub has_passing : (p : ℕ → Bool) (n v : ℕ) → IsVertex n v → has (filter p (up_to n)) v ≡ p v
has_passing p n v vertex =
    any-filter_same (λ x. x == v) p (p v) (λ k same. ap p (eqb-true k v same)) (up_to n)
    ∙ (ap (λ b. p v && b) (has-up_to n v vertex) ∙ and_true (p v))
  where
    and_true : (b : Bool) → (b && true) ≡ b
    and_true true = refl
    and_true false = refl

-- they are vertices
pub passing_set : (p : ℕ → Bool) (n : ℕ) → IsVertexSet n (filter p (up_to n))
passing_set p n = record {
  ascending = IsStrictlyIncreasing-filter p (up_to n) (up_to_rises n);
  in_range = All-from_recursion (IsVertex n) (filter p (up_to n)) (all_then (λ x. IsVertex n x × IsTrue (p x)) (IsVertex n) (filter p (up_to n)) (λ x h. h.0) (all_kept (IsVertex n) p (up_to n) (vertices_up_to n)));
}

-- those up to one vertex more
pub passing_more : (p : ℕ → Bool) (k : ℕ) → filter p (up_to (k + 1)) ≡ filter p (up_to k) ++ cond (p (k + 1)) ((k + 1) ∷ []) []
passing_more p k =
    let next : k + 1 ≡ suc k = omega arith in
    rw next (filter-append p (up_to k) (suc k ∷ []) ∙ refl)

-- where no vertex passes there are none
pub none_pass : (p : ℕ → Bool) (n : ℕ) → ((v : ℕ) → IsVertex n v → p v ≡ false) → filter p (up_to n) ≡ []
none_pass p zero none = refl
none_pass p (suc n) none =
    let rest = none_pass p n (λ v vertex. none v (vertex.0, (let high = vertex.1 in omega arith))) in
    let last = none (suc n) (omega arith, omega arith) in
    filter-append p (up_to n) (suc n ∷ []) ∙ rw (rest, last) refl

-- and where each does, all are counted
pub all_counted : (p : ℕ → Bool) (n : ℕ) → ((v : ℕ) → IsVertex n v → p v ≡ true) → count_to p n ≡ n
all_counted p zero all = refl
all_counted p (suc n) all =
    let rest = all_counted p n (λ v vertex. all v (vertex.0, (let high = vertex.1 in omega arith))) in
    let here : ◌≡◌ {A = ℕ} (cond (p (suc n)) 1 0) 1 = ap (λ b. cond b 1 0) (all (suc n) (omega arith, omega arith)) in
    omega arith

-- sums that differ in one term
pub sum_to_but : (f g : ℕ → ℕ) (v n : ℕ) → IsVertex n v → ((w : ℕ) → IsVertex n w → w ≢ v → f w ≡ g w) → sum_to f n + g v ≡ sum_to g n + f v
sum_to_but f g v zero vertex same = let low = vertex.0 in let high = vertex.1 in absurd (omega arith)
sum_to_but f g v (suc n) vertex same = elim (cases_lt v (suc n)) [
  | inl less ↦
      let rest = sum_to_but f g v n (vertex.0, omega arith) (λ w there other. same w (there.0, (let high = there.1 in omega arith)) other) in
      let last = same (suc n) (omega arith, omega arith) (λ e. (omega arith)) in
      omega arith
  | inr more ↦
      let high = vertex.1 in
      let here : v ≡ suc n = omega arith in
      let rest = sum_to_same f g n (λ w low short. same w (low, omega arith) (λ e. (omega arith))) in
      let fs = ap f here in
      let gs = ap g here in
      omega arith
]

-- one that passes is found
pub one_counted : (p : ℕ → Bool) (n : ℕ) → 1 ≤ count_to p n → (w : ℕ) × IsVertex n w × IsTrue (p w)
one_counted p zero some = absurd (omega arith)
one_counted p (suc n) some = by_test (p (suc n)) refl some (one_counted p n)
  where
    by_test : (b : Bool) → p (suc n) ≡ b → 1 ≤ count_to p n + cond b 1 0 → (1 ≤ count_to p n → (w : ℕ) × IsVertex n w × IsTrue (p w)) → (w : ℕ) × IsVertex (suc n) w × IsTrue (p w)
    by_test true is some rest = (suc n, (omega arith, omega arith), is)
    by_test false is some rest = let (w, vertex, there) = rest (omega arith) in (w, (vertex.0, (let high = vertex.1 in omega arith)), there)

-- and counted
pub some_counted : (p : ℕ → Bool) (n w : ℕ) → IsVertex n w → IsTrue (p w) → 1 ≤ count_to p n
some_counted p n w vertex there =
    let but : count_to p n + cond (p w && not (w == w)) 1 0 ≡ count_to (λ x. p x && not (x == w)) n + cond (p w) 1 0 = sum_to_but (λ x. cond (p x) 1 0) (λ x. cond (p x && not (x == w)) 1 0) w n vertex (λ x is other. (let e = ne_eqb x w other in rw e (ap (λ b. cond b 1 0) (sym (and_true (p x)))))) in
    let here : ◌≡◌ {A = ℕ} (cond (p w) 1 0) 1 = ap (λ b. cond b 1 0) there in
    let out : ◌≡◌ {A = ℕ} (cond (p w && not (w == w)) 1 0) 0 = (let e = eq-eqb w w refl in rw e (ap (λ b. cond b 1 0) (and_false (p w)))) in
    omega arith
  where
    and_true : (b : Bool) → (b && true) ≡ b
    and_true true = refl
    and_true false = refl

    and_false : (b : Bool) → (b && false) ≡ false
    and_false true = refl
    and_false false = refl

-- the count without one that passes
pub count_less : (p q : ℕ → Bool) (n v : ℕ) → IsVertex n v → p v ≡ true → q v ≡ false → ((w : ℕ) → IsVertex n w → w ≢ v → q w ≡ p w) → count_to q n + 1 ≡ count_to p n
count_less p q n v vertex was is same =
    let but : count_to q n + cond (p v) 1 0 ≡ count_to p n + cond (q v) 1 0 = sum_to_but (λ x. cond (q x) 1 0) (λ x. cond (p x) 1 0) v n vertex (λ w there other. ap (λ b. cond b 1 0) (same w there other)) in
    let before : ◌≡◌ {A = ℕ} (cond (p v) 1 0) 1 = ap (λ b. cond b 1 0) was in
    let after : ◌≡◌ {A = ℕ} (cond (q v) 1 0) 0 = ap (λ b. cond b 1 0) is in
    omega arith

-- the test, but for v
pub but_v : (ℕ → Bool) → ℕ → ℕ → Bool
but_v p v w = p w && not (w == v)

pub but_at : (p : ℕ → Bool) (v : ℕ) → but_v p v v ≡ false
unfolding but_v
but_at p v = rw (eq-eqb v v refl) (and_false (p v))
  where
    and_false : (b : Bool) → (b && false) ≡ false
    and_false true = refl
    and_false false = refl

pub but_others : (p : ℕ → Bool) (v w : ℕ) → w ≢ v → but_v p v w ≡ p w
unfolding but_v
but_others p v w other = rw (ne_eqb w v other) (and_true (p w))
  where
    and_true : (b : Bool) → (b && true) ≡ b
    and_true true = refl
    and_true false = refl

but_passes : (p : ℕ → Bool) (v w : ℕ) → IsTrue (but_v p v w) → IsTrue (p w) × (w ≢ v)
unfolding but_v
but_passes p v w h = by_test (p w) (w == v) refl refl h
  where
    by_test : (a b : Bool) → p w ≡ a → (w == v) ≡ b → (a && not b) ≡ true → IsTrue (p w) × (w ≢ v)
    by_test true false a_is b_is h = (a_is, λ same. false≢true (sym b_is ∙ eq-eqb w v same))
    by_test true true a_is b_is h = absurd (false≢true h)
    by_test false b a_is b_is h = absurd (false≢true h)

-- where two pass, another one than v does
pub another_counted : (p : ℕ → Bool) (n v : ℕ) → IsVertex n v → IsTrue (p v) → 2 ≤ count_to p n → (w : ℕ) × IsVertex n w × IsTrue (p w) × (w ≢ v)
another_counted p n v vertex there two =
    let less = count_less p (but_v p v) n v vertex there (but_at p v) (λ w is other. but_others p v w other) in
    let (w, is, passes) = one_counted (but_v p v) n (omega arith) in
    (w, is, (but_passes p v w passes).0, (but_passes p v w passes).1)

-- and where another one does, two pass
pub two_counted : (p : ℕ → Bool) (n v w : ℕ) → IsVertex n v → IsTrue (p v) → IsVertex n w → IsTrue (p w) → w ≢ v → 2 ≤ count_to p n
two_counted p n v w vertex there w_vertex w_there other =
    let less = count_less p (but_v p v) n v vertex there (but_at p v) (λ x is apart. but_others p v x apart) in
    let one = some_counted (but_v p v) n w w_vertex (but_others p v w other ∙ w_there) in
    omega arith

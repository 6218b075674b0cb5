-- Passes of a pool: made new, and with one more node given.
use Rattle.std.proofs.Common.{◌≡◌, ℕ, zero, suc, ◌+◌, ◌<◌, List, [], ◌∷◌, ◌++◌, map, take, drop, set, get_or, length, sym, refl, ap, ◌∙◌, subst, arith}
use Rattle.std.specs.Prelude.{All}
use Rattle.std.specs.List.{sum_by}
use Rattle.std.proofs.lemmas.List.Sums.{sum_by-cons}
use Rattle.branching.specs.declared.node.Node.{Node}
use Rattle.node_pool.specs.Ends.{End}
use Rattle.node_pool.specs.Pool.{Station, own_queue, queues_at, puts, takes, gave, took, Moves, SamePass, AreAllPasses, all_gave, all_took}
use Rattle.node_pool.specs.Sides.{IsNewPass, AreNewPasses}
use Rattle.node_pool.specs.Laws.{PassesStayAPool}
use Rattle.node_pool.proofs.Lists.{all_head, all_tail}

own_queues : (before after : List Station) → length after ≡ length before
    → ((k : ℕ) (d : Station) → k < length before → SamePass (get_or before k d) (get_or after k d)) → map own_queue after ≡ map own_queue before
own_queues [] [] long same = refl
own_queues [] (y ∷ ys) long same = absurd (omega arith)
own_queues (x ∷ xs) [] long same = absurd (omega arith)
own_queues (x ∷ xs) (y ∷ ys) long same =
    let here = same 0 x (omega arith) in let rest = own_queues xs ys (omega arith) (λ k d lt. same (suc k) d (omega arith)) in (λ i. here.0 i ∷ rest i)

known_still : (k : ℕ) (before after : Station) → SamePass before after → queues_at k after ≡ queues_at k before
known_still k before after same = λ i. take k (same.1 i) ++ same.0 i ∷ drop k (same.1 i)

pub passes_stay : PassesStayAPool
passes_stay before after all long same k d lt =
    known_still k (get_or before k d) (get_or after k d) (same k d (omega arith)) ∙ all k d (omega arith) ∙ sym (own_queues before after long same)

-- where nothing was put or taken, nothing weighs anything
weightless : (h : Node → ℕ) (es : List End) → All (λ (e : End). (e.hand.put ≡ []) × (e.hand.taken ≡ [])) es → (puts h es ≡ 0) × (takes h es ≡ 0)
weightless h [] none = (refl, refl)
weightless h (e ∷ es) none =
    let F : End → Type 0 = λ e. (e.hand.put ≡ []) × (e.hand.taken ≡ []) in
    let here = all_head F e es none in let rest = weightless h es (all_tail F e es none) in
    let a : sum_by h e.hand.put ≡ 0 = ap (sum_by h) here.0 in let b : sum_by h e.hand.taken ≡ 0 = ap (sum_by h) here.1 in
    let c = rest.0 in let d = rest.1 in
    (omega (arith, sum_by-cons (λ (k : End). sum_by h k.hand.put) e es), omega (arith, sum_by-cons (λ (k : End). sum_by h k.hand.taken) e es))

new_is_weightless : (h : Node → ℕ) (s : Station) → IsNewPass s → (gave h s ≡ 0) × (took h s ≡ 0)
new_is_weightless h s new =
    let w = weightless h s.others new.others_none in
    let a : sum_by h s.own.hand.put ≡ 0 = ap (sum_by h) new.put_none in let b : sum_by h s.own.hand.taken ≡ 0 = ap (sum_by h) new.taken_none in
    let c : sum_by h s.list ≡ 0 = ap (sum_by h) new.list_none in let d = w.0 in let e = w.1 in (omega arith, omega arith)

all_weightless : (h : Node → ℕ) (ps : List Station) → All IsNewPass ps → (all_gave h ps ≡ 0) × (all_took h ps ≡ 0)
all_weightless h [] new = (refl, refl)
all_weightless h (p ∷ ps) new =
    let here = new_is_weightless h p (all_head IsNewPass p ps new) in let rest = all_weightless h ps (all_tail IsNewPass p ps new) in
    let a = here.0 in let b = here.1 in let c = rest.0 in let d = rest.1 in (omega (arith, sum_by-cons (gave h) p ps), omega (arith, sum_by-cons (took h) p ps))

-- the first of new passes gave the root
pub root_given : (ps : List Station) (o p : Station) (root : Node) → 0 < length ps → AreNewPasses (map own_queue ps) ps → o ≡ get_or ps 0 o → SamePass o p → Moves o p (root ∷ []) []
    → AreAllPasses (set ps 0 p) × ((h : Node → ℕ) → all_gave h (set ps 0 p) ≡ all_took h (set ps 0 p) + h root)
root_given [] o p root some new at same moved = absurd (omega arith)
root_given (q ∷ ps) o p root some new at same moved = (passes_stay (q ∷ ps) (p ∷ ps) new.known refl each, sums) where
  each : (k : ℕ) (d : Station) → k < length (q ∷ ps) → SamePass (get_or (q ∷ ps) k d) (get_or (p ∷ ps) k d)
  each zero d lt = subst (λ s. SamePass s p) at same
  each (suc k) d lt = (refl, refl)

  sums : (h : Node → ℕ) → all_gave h (p ∷ ps) ≡ all_took h (p ∷ ps) + h root
  sums h =
      let first = new_is_weightless h q (all_head IsNewPass q ps new.unused) in let rest = all_weightless h ps (all_tail IsNewPass q ps new.unused) in
      let m : gave h p + took h q + sum_by h [] ≡ gave h q + took h p + sum_by h (root ∷ []) = subst (λ s. Moves s p (root ∷ []) []) at moved h in
      let a = first.0 in let b = first.1 in let c = rest.0 in let d = rest.1 in let z : sum_by h [] ≡ 0 = refl in
      omega (arith, sum_by-cons (gave h) p ps, sum_by-cons (took h) p ps, sum_by-cons h root [])

-- One pass gave or took.
pub pool_set : (ps : List Station) (k : ℕ) (o p : Station) → k < length ps → AreAllPasses ps → o ≡ get_or ps k o → SamePass o p → AreAllPasses (set ps k p)
pool_set ps k o p lt all at same = passes_stay ps (set ps k p) all (long ps k) (each ps k lt at) where
  long : (qs : List Station) (j : ℕ) → length (set qs j p) ≡ length qs
  long [] j = refl
  long (q ∷ qs) zero = refl
  long (q ∷ qs) (suc j) = ap suc (long qs j)

  each : (qs : List Station) (j : ℕ) → j < length qs → o ≡ get_or qs j o → (i : ℕ) (d : Station) → i < length qs → SamePass (get_or qs i d) (get_or (set qs j p) i d)
  each [] j less is i d here = absurd (omega arith)
  each (q ∷ qs) zero less is zero d here = subst (λ s. SamePass s p) is same
  each (q ∷ qs) zero less is (suc i) d here = (refl, refl)
  each (q ∷ qs) (suc j) less is zero d here = (refl, refl)
  each (q ∷ qs) (suc j) less is (suc i) d here = each qs j (omega arith) is i d (omega arith)

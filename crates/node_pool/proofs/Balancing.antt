-- Each step of a queue keeps the balance.
use Rattle.std.proofs.Common.{◌≡◌, ◌≢◌, ◌⊎◌, ℕ, zero, suc, ◌-◌, ◌<◌, List, [], ◌∷◌, ◌++◌, set, sym, refl, ap, ◌∙◌, subst, ⊎_elim, append_assoc, append-nil, inl, inr, arith, length}
use Rattle.std.proofs.lemmas.List.{length-set}
use Rattle.std.specs.List.{sum_by}
use Rattle.std.proofs.lemmas.List.Sums.{sum_by-cons, sum_by-append}
use mathlib.Core.Option.{some, some-injective, some-ne-none}
use lib.ListN.{get_elem?}
use Rattle.crossbeam_deque.specs.Tasks.{Pushes, Takes, Finds, Forks, Merges, Learns}
use Rattle.crossbeam_deque.proofs.Lists.{at_set, at_snoc}
use Rattle.branching.specs.declared.node.Node.{Node}
use Rattle.node_pool.specs.declared.rule.Hand.{Hand}
use Rattle.node_pool.specs.Lane.{hand, both, took, Balanced, IdleIsEmpty, InOrder, IsLeft, IsPutAt}
use Rattle.seat_views.proofs.Places.{in_range}
use Rattle.seat_views.proofs.Sums.{one_le, sum_set, sum_snoc}

abbrev parts_of : Hand → ℕ
parts_of v = v.parts

abbrev put_of : (Node → ℕ) → Hand → ℕ
put_of h v = sum_by h v.put

abbrev taken_of : (Node → ℕ) → Hand → ℕ
taken_of h v = sum_by h v.taken

idle_set : (views : List Hand) (port : ℕ) (w : Hand) → (w.parts ≡ 0 → (w.put ≡ []) × (w.taken ≡ [])) → IdleIsEmpty views → IdleIsEmpty (set views port w)
idle_set views port w mine idle j u e none = ⊎_elim (λ (x : (j ≡ port) × (w ≡ u)). subst (λ (k : Hand). k.parts ≡ 0 → (k.put ≡ []) × (k.taken ≡ [])) x.1 mine none)
    (λ (x : (j ≢ port) × (get_elem? views j ≡ some u)). idle j u x.1 none) (at_set views port j w u e)

-- what an end put, where the queue changes
module _ (items : List Node) where
  same_put : (port : ℕ) (v w : Hand) → w.put ≡ v.put → IsPutAt items port v → IsPutAt items port w
  same_put zero v w same is = (is.0, same ∙ is.1)
  same_put (suc port) v w same is = same ∙ is

  later : (xs : List Node) (port : ℕ) (v : Hand) → IsPutAt (xs ++ items) port v → IsPutAt items port v
  later xs zero v is = (is.0 ++ xs, is.1 ∙ sym (append_assoc is.0 xs items))
  later xs (suc port) v is = is

  first_put : (xs : List Node) (port : ℕ) (v w : Hand) → port ≡ 0 → w.put ≡ v.put ++ xs → IsPutAt items port v → IsPutAt (items ++ xs) port w
  first_put xs zero v w first more is = (is.0, more ∙ ap (λ l. l ++ xs) is.1 ∙ append_assoc is.0 items xs)
  first_put xs (suc port) v w first more is = absurd (omega arith)

  other_put : (items' : List Node) (port j : ℕ) (u : Hand) → port ≡ 0 → IsPutAt items j u → j ≢ port → IsPutAt items' j u
  other_put items' port zero u first is other = absurd (other (sym first))
  other_put items' port (suc j) u first is other = is

  none_put : (j : ℕ) (u : Hand) → j ≢ 0 → IsPutAt items j u → u.put ≡ []
  none_put zero u other is = absurd (other refl)
  none_put (suc j) u other is = is

  nothing_put : (j : ℕ) (u : Hand) → j ≢ 0 → u.put ≡ [] → IsPutAt items j u
  nothing_put zero u other none = absurd (other refl)
  nothing_put (suc j) u other none = none

  order_set : (items' : List Node) (views : List Hand) (port : ℕ) (w : Hand) → ((j : ℕ) (u : Hand) → IsPutAt items j u → j ≢ port → IsPutAt items' j u)
      → IsPutAt items' port w → InOrder items views → InOrder items' (set views port w)
  order_set items' views port w others here order j u e = ⊎_elim (λ (x : (j ≡ port) × (w ≡ u)). subst (IsPutAt items' j) x.1 (subst (λ p. IsPutAt items' p w) (sym x.0) here))
      (λ (x : (j ≢ port) × (get_elem? views j ≡ some u)). others j u (order j u x.1) x.0) (at_set views port j w u e)

  order_snoc : (views : List Hand) (w : Hand) → 0 < length views → w.put ≡ [] → InOrder items views → InOrder items (views ++ w ∷ [])
  order_snoc views w any none order j u e = ⊎_elim (λ (x : get_elem? views j ≡ some u). order j u x)
      (λ (x : (w ≡ u) × (j ≡ length views)). nothing_put j u (λ z. absurd (let n = x.1 in omega arith)) (ap (λ (k : Hand). k.put) (sym x.0) ∙ none)) (last views j e) where
        last : (vs : List Hand) (i : ℕ) → get_elem? (vs ++ w ∷ []) i ≡ some u → (get_elem? vs i ≡ some u) ⊎ ((w ≡ u) × (i ≡ length vs))
        last [] zero at = inr (some-injective w u at, refl)
        last [] (suc i) at = absurd (some-ne-none u (sym at))
        last (x ∷ vs) zero at = inl at
        last (x ∷ vs) (suc i) at = ⊎_elim (λ a. inl a) (λ b. inr (b.0, ap suc b.1)) (last vs i at)

  -- all that was put, the first end put
  all_put : (h : Node → ℕ) (views : List Hand) (port : ℕ) (v : Hand) → port ≡ 0 → get_elem? views port ≡ some v → InOrder items views → sum_by (put_of h) views ≡ sum_by h v.put
  all_put h [] port v first at order = absurd (some-ne-none v (sym at))
  all_put h (x ∷ xs) zero v first at order = let r = rest xs (λ j u e. order (suc j) u e) in let c = sum_by-cons (put_of h) x xs in let p : put_of h x ≡ put_of h v = ap (put_of h) (some-injective x v at) in omega arith where
    rest : (ys : List Hand) → ((j : ℕ) (u : Hand) → get_elem? ys j ≡ some u → u.put ≡ []) → sum_by (put_of h) ys ≡ 0
    rest [] none = refl
    rest (y ∷ ys) none = let r = rest ys (λ j u e. none (suc j) u e) in let c = sum_by-cons (put_of h) y ys in let p : put_of h y ≡ sum_by h [] = ap (sum_by h) (none 0 y refl) in let z : sum_by h [] ≡ 0 = refl in omega arith
  all_put h (x ∷ xs) (suc port) v first at order = absurd (omega arith)

pub begins : Balanced [] (hand 65 [] [] ∷ [])
begins = (refl, (λ h. refl), one, fresh) where
  one : IdleIsEmpty (hand 65 [] [] ∷ [])
  one zero u e none = absurd (let p = ap (λ (k : Hand). k.parts) (some-injective (hand 65 [] []) u e) in omega arith)
  one (suc j) u e none = absurd (some-ne-none u (sym e))

  fresh : InOrder [] (hand 65 [] [] ∷ [])
  fresh zero u e = subst (IsPutAt [] 0) (some-injective (hand 65 [] []) u e) ([], refl)
  fresh (suc j) u e = absurd (some-ne-none u (sym e))

pub puts : (port : ℕ) (v : Hand) (xs : List Node) → port ≡ 0 → 0 < v.parts → Pushes Balanced port v xs (λ w. w ≡ hand v.parts (v.put ++ xs) v.taken)
puts port v xs first part items views b at = let w = hand v.parts (v.put ++ xs) v.taken in (
  w,
  (
    (let s = sum_set parts_of views port v w at in let p = b.0 in omega arith),
    (λ h. let s = sum_set (put_of h) views port v w at in let t = sum_set (taken_of h) views port v w at in let p = b.1 h in
        let a = sum_by-append h v.put xs in let c = sum_by-append h items xs in omega arith),
    idle_set views port w (λ none. absurd (omega arith)) b.2,
    order_set items (items ++ xs) views port w (λ j u is other. other_put items (items ++ xs) port j u first is other) (first_put items xs port v w first refl (b.3 port v at)) b.3,
  ),
  refl,
)

pub forks : (port : ℕ) (v : Hand) → 1 < v.parts → Forks Balanced port v (hand (v.parts - 1) v.put v.taken) (hand 1 [] [])
forks port v many items views b at =
    let left = hand (v.parts - 1) v.put v.taken in let right = hand 1 [] [] in let vs = set views port left in (
      (let s = sum_set parts_of views port v left at in let t = sum_snoc parts_of vs right in let p = b.0 in omega arith),
      (λ h. let s = sum_set (put_of h) views port v left at in let t = sum_set (taken_of h) views port v left at in let p = b.1 h in
          let a = sum_snoc (put_of h) vs right in let c = sum_snoc (taken_of h) vs right in let z : sum_by h [] ≡ 0 = refl in omega arith),
      (λ j u e none. ⊎_elim (λ (x : get_elem? vs j ≡ some u). idle_set views port left (λ n. absurd (omega arith)) b.2 j u x none)
          (λ (x : right ≡ u). absurd (let p = ap parts_of x in omega arith)) (at_snoc vs right u j e)),
      order_snoc items vs right (let some = in_range views port v at in let long = length-set views port left in omega arith) refl
          (order_set items items views port left (λ j u is other. is) (same_put items port v left refl (b.3 port v at)) b.3),
    )

pub merges : (port : ℕ) (v : Hand) (other : ℕ) (w : Hand) → port ≡ 0 → 0 < v.parts → Merges Balanced port v other w (both v w) (hand 0 [] [])
merges port v other w first part items views b at apart at' =
    let two = both v w in let spent = hand 0 [] [] in let vs = set views port two in
    let later_end : other ≢ 0 = λ z. apart (z ∙ sym first) in
    let there : get_elem? views other ≡ some w = ⊎_elim (λ (x : (other ≡ port) × (two ≡ w)). absurd (apart x.0)) (λ (x : (other ≢ port) × (get_elem? views other ≡ some w)). x.1) (at_set views port other two w at') in
    let none = none_put items other w later_end (b.3 other w there) in
    let same : two.put ≡ v.put = ap (λ l. v.put ++ l) none ∙ append-nil v.put in (
      (let s = sum_set parts_of views port v two at in let t = sum_set parts_of vs other w spent at' in let p = b.0 in omega arith),
      (λ h. let s = sum_set (put_of h) views port v two at in let t = sum_set (put_of h) vs other w spent at' in
          let s' = sum_set (taken_of h) views port v two at in let t' = sum_set (taken_of h) vs other w spent at' in let p = b.1 h in
          let a = sum_by-append h v.put w.put in let c = sum_by-append h v.taken w.taken in let z : sum_by h [] ≡ 0 = refl in omega arith),
      idle_set vs other spent (λ none. (refl, refl)) (idle_set views port two (λ none. absurd (omega arith)) b.2),
      order_set items items vs other spent (λ j u is _. is) (nothing_put items other spent later_end refl)
          (order_set items items views port two (λ j u is _. is) (same_put items port v two same (b.3 port v at)) b.3),
    )

-- a sum over all ends is the term of the end with every part
whole : (f : Hand → ℕ) → ((u : Hand) → (u.put ≡ []) × (u.taken ≡ []) → f u ≡ 0) → (views : List Hand) (port : ℕ) (v : Hand) → get_elem? views port ≡ some v → IdleIsEmpty views → sum_by parts_of views ≡ v.parts → sum_by f views ≡ f v
whole f none [] port v at idle all = absurd (some-ne-none v (sym at))
whole f none (x ∷ xs) zero v at idle all = let is : x ≡ v = some-injective x v at in let p = ap parts_of is in let q = ap f is in
    let r = rest xs (λ j u e. idle (suc j) u e) (let c = sum_by-cons parts_of x xs in omega arith) in let c = sum_by-cons f x xs in omega arith where
      rest : (ys : List Hand) → IdleIsEmpty ys → sum_by parts_of ys ≡ 0 → sum_by f ys ≡ 0
      rest [] idle none' = refl
      rest (y ∷ ys) idle none' = let c = sum_by-cons parts_of y ys in let d = sum_by-cons f y ys in
          let e = none y (idle 0 y refl (omega arith)) in let r = rest ys (λ j u e. idle (suc j) u e) (omega arith) in omega arith
whole f none (x ∷ xs) (suc port) v at idle all = let c = sum_by-cons parts_of x xs in let d = sum_by-cons f x xs in let l = one_le parts_of xs port v at in
    let e = none x (idle 0 x refl (omega arith)) in let r = whole f none xs port v at (λ j u e. idle (suc j) u e) (omega arith) in omega arith

-- who has every part knows what is left
pub learns : (port : ℕ) (v : Hand) → v.parts ≡ 65 → Learns Balanced port v (IsLeft v)
learns port v all items views b at h =
    let p = b.0 in
    let a = whole (put_of h) (λ u e. ap (sum_by h) e.0) views port v at b.2 (omega arith) in
    let c = whole (taken_of h) (λ u e. ap (sum_by h) e.1) views port v at b.2 (omega arith) in
    let d = b.1 h in omega arith

-- each node weighs one
pub ones_long : (xs : List Node) → sum_by (λ (n : Node). 1) xs ≡ length xs
ones_long [] = refl
ones_long (x ∷ xs) = let h = ones_long xs in omega (arith, sum_by-cons (λ (n : Node). 1) x xs)

pub finds : (port : ℕ) (v : Hand) → Finds Balanced port v (v.parts ≡ 65 → IsLeft v [])
finds port v views b at all = learns port v all [] views b at

-- any end takes the first node
pub steals : (port : ℕ) (v : Hand) → 0 < v.parts → Takes Balanced port v 1 (λ xs w. w ≡ hand v.parts v.put (v.taken ++ xs))
steals port v part xs items views _ _ b at = let w = hand v.parts v.put (v.taken ++ xs) in (
  w,
  (
    (let s = sum_set parts_of views port v w at in let p = b.0 in omega arith),
    (λ h. let s = sum_set (put_of h) views port v w at in let t = sum_set (taken_of h) views port v w at in let p = b.1 h in
        let a = sum_by-append h v.taken xs in let c = sum_by-append h xs items in omega arith),
    idle_set views port w (λ none. absurd (omega arith)) b.2,
    order_set (xs ++ items) items views port w (λ j u is _. later items xs j u is) (later items xs port w (same_put (xs ++ items) port v w refl (b.3 port v at))) b.3,
  ),
  refl,
)

-- the first end takes the first node
pub gets : (port : ℕ) (v : Hand) → port ≡ 0 → 0 < v.parts → Takes Balanced port v 1 (λ xs w. took v xs w)
gets port v first part xs items views any few b at =
    let s = steals port v part xs items views any few b at in
    let o : (front : List Node) × (v.put ≡ front ++ (xs ++ items)) = subst (λ p. IsPutAt (xs ++ items) p v) first (b.3 port v at) in
    let p = b.1 (λ n. 1) in
    let a = all_put (xs ++ items) (λ n. 1) views port v first at b.3 in
    let d : sum_by (λ (n : Node). 1) v.put ≡ sum_by (λ (n : Node). 1) (o.0 ++ (xs ++ items)) = ap (sum_by (λ (n : Node). 1)) o.1 in
    let e = sum_by-append (λ (n : Node). 1) o.0 (xs ++ items) in
    let f = ones_long o.0 in let g = ones_long v.taken in
    let l = one_le (taken_of (λ n. 1)) views port v at in (
      s.0,
      s.1,
      (
        s.2,
        (
          o.0,
          items,
          o.1,
          omega arith,
          λ all. let w = whole (taken_of (λ n. 1)) (λ u e. ap (sum_by (λ (n : Node). 1)) e.1) views port v at b.2 (let q = b.0 in omega arith) in omega arith,
        ),
      ),
    )

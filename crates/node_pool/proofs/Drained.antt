-- A queue whose owner has every part: what it takes next, and when it holds nothing any more.
use Rattle.std.proofs.Common.{◌≡◌, ℕ, ◌+◌, List, [], ◌∷◌, ◌++◌, drop, length, sym, refl, ap, ◌∙◌, subst, append_assoc, arith}
use Rattle.std.proofs.lemmas.List.{drop_all, drop_at}
use Rattle.std.proofs.lemmas.List.Sums.{sum_by-append}
use Rattle.std.specs.Prelude.{slice_get, Some}
use Rattle.std.specs.List.{sum_by}
use Rattle.branching.specs.declared.node.Node.{Node}
use Rattle.node_pool.specs.declared.rule.Hand.{Hand}
use Rattle.node_pool.specs.Lane.{hand, AreNext, IsLeft}
use Rattle.node_pool.proofs.Balancing.{ones_long}

pub drained : (v : Hand) → IsLeft v [] → (h : Node → ℕ) → sum_by h v.put ≡ sum_by h v.taken
drained v none h = let l : sum_by h v.put ≡ sum_by h v.taken + sum_by h [] = none h in let z : sum_by h [] ≡ 0 = refl in omega arith

pub alone_found : (v : Hand) → IsLeft v [] → length v.taken ≡ length v.put
alone_found v none = let d = drained v none (λ n. 1) in let a = ones_long v.put in let b = ones_long v.taken in omega arith

-- what stands after so many
at_front : (front : List Node) (x : Node) (rest : List Node) → slice_get (front ++ x ∷ rest) (length front) ≡ Some x
at_front [] x rest = refl
at_front (y ∷ front) x rest = at_front front x rest

pub next_got : (v : Hand) (x : Node) → v.parts ≡ 65 → AreNext v (x ∷ []) → slice_get v.put (length v.taken) ≡ Some x
next_got v x all next = subst (λ k. slice_get v.put k ≡ Some x) (next.4 all) (subst (λ l. slice_get l (length next.0) ≡ Some x) (sym next.2) (at_front next.0 x next.1))

-- one node less is left
pub next_less : (v w : Hand) (x : Node) → v.parts ≡ 65 → AreNext v (x ∷ []) → w.put ≡ v.put → length w.taken ≡ length v.taken + 1 → drop (length v.taken) v.put ≡ x ∷ drop (length w.taken) w.put
next_less v w x all next same more =
    let front = next.0 in let rest = next.1 in
    let long : length front ≡ length v.taken = next.4 all in
    let here : drop (length v.taken) v.put ≡ x ∷ rest = ap (drop (length v.taken)) next.2 ∙ drop_at front (x ∷ rest) (length v.taken) long in
    let one : length (front ++ x ∷ []) ≡ length w.taken = let b = longer front in omega arith in
    let there : drop (length w.taken) w.put ≡ rest = ap (drop (length w.taken)) (same ∙ next.2 ∙ sym (append_assoc front (x ∷ []) rest)) ∙ drop_at (front ++ x ∷ []) rest (length w.taken) one in
    here ∙ ap (λ l. x ∷ l) (sym there) where
      longer : (front : List Node) → length (front ++ x ∷ []) ≡ length front + 1
      longer [] = refl
      longer (y ∷ front) = let h = longer front in omega arith

-- nothing is left
pub none_left : (v : Hand) → length v.taken ≡ length v.put → drop (length v.taken) v.put ≡ []
none_left v all = drop_all (length v.taken) v.put (omega arith)

-- One node was taken out of a queue and put last into a list.
module _ (first v w : Hand) (left after : List Node) (x : Node) where
  longer : (l : List Node) → length (l ++ x ∷ []) ≡ length l + 1
  longer [] = refl
  longer (y ∷ l) = let h = longer l in omega arith

  pub weighed_on : w ≡ hand v.parts v.put (v.taken ++ x ∷ []) → after ≡ left ++ x ∷ [] → ((h : Node → ℕ) → sum_by h v.taken ≡ sum_by h first.taken + sum_by h left) → (h : Node → ℕ) → sum_by h w.taken ≡ sum_by h first.taken + sum_by h after
  weighed_on is grown was h =
      let a : sum_by h w.taken ≡ sum_by h (v.taken ++ x ∷ []) = ap (λ (u : Hand). sum_by h u.taken) is in let b = sum_by-append h v.taken (x ∷ []) in
      let c : sum_by h after ≡ sum_by h (left ++ x ∷ []) = ap (sum_by h) grown in let d = sum_by-append h left (x ∷ []) in let e = was h in omega arith

  pub drained_on : w ≡ hand v.parts v.put (v.taken ++ x ∷ []) → after ≡ left ++ x ∷ [] → v.parts ≡ 65 → AreNext v (x ∷ []) → drop (length first.taken) first.put ≡ left ++ drop (length v.taken) v.put
      → drop (length first.taken) first.put ≡ after ++ drop (length w.taken) w.put
  drained_on is grown all next was =
      let more : length w.taken ≡ length v.taken + 1 = ap (λ (u : Hand). length u.taken) is ∙ longer v.taken in
      let less = next_less v w x all next (ap (λ (u : Hand). u.put) is) more in
      was ∙ ap (λ l. left ++ l) less ∙ sym (append_assoc left (x ∷ []) (drop (length w.taken) w.put)) ∙ ap (λ l. l ++ drop (length w.taken) w.put) (sym grown)

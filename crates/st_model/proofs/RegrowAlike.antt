-- What a tree reaches and costs depends on its links alone, and on one vertex that it reaches.
use Rattle.std.proofs.Common.{◌≡◌, ℕ, min, max, Bool, true, false, ◌||◌, ◌⊎◌, inl, inr, List, [], ◌∷◌, map, refl, sym, ap, ◌∙◌, arith, eq-eqb}
use Rattle.std.specs.Prelude.{◌==◌, IsTrue, unwrap_or}
use Rattle.std.specs.List.{list_any}
use Rattle.std.specs.List.Sorted.{IsPermutation}
use Rattle.std.proofs.lemmas.Bool.{eqb-true, cases_lt}
use Rattle.std.proofs.lemmas.Bool.Decides.{nat_tests, eqb_tells}
use Rattle.std.proofs.lemmas.List.Recursion.{is_sum_by}
use Rattle.std.proofs.lemmas.List.Sorted.{list_any-IsPermutation, sum_by-IsPermutation}
use Rattle.std.proofs.Math.Bool.{or-false}
use Rattle.st_model.specs.declared.tree.Tree.{Tree}
use Rattle.st_model.specs.Lists.{has, total}
use Rattle.st_model.specs.Network.{Network}
use Rattle.st_model.specs.Arborescence.{reached_from, reached, Grows, IsArborescence, arc_cost}
use Rattle.st_model.specs.Regrown.{unordered, RegrownIsAlike}
use Rattle.st_model.proofs.Distinct.{link-comm}
use Rattle.st_model.proofs.RegrowLaws.{missed-same}

-- v is an end of the arc
abbrev touches : ℕ → ℕ × ℕ → Bool
touches v arc = (arc.0 == v) || (arc.1 == v)

-- a tree reaches its start, and the ends of its arcs
has-reached_from_ends : (I : Network) (r : List ℕ) (arcs : List (ℕ × ℕ)) (v : ℕ) → Grows I r arcs → has (reached_from r arcs) v ≡ has r v || list_any (touches v) arcs
has-reached_from_ends I r [] v g = sym (or-false (has r v))
has-reached_from_ends I r (arc ∷ arcs) v g = has-reached_from_ends I (arc.1 ∷ r) arcs v g.3 ∙ moved (arc.0 == v) (arc.1 == v) (has r v) (list_any (touches v) arcs) tail_there
  where
    tail_there : (arc.0 == v) ≡ true → has r v ≡ true
    tail_there same = ap (has r) (sym (eqb-true arc.0 v same)) ∙ g.1

    moved : (a b c d : Bool) → (a ≡ true → c ≡ true) → ((b || c) || d) ≡ (c || ((a || b) || d))
    moved true b c d h = rw (h refl) (swap b d)
      where
        swap : (b d : Bool) → ((b || true) || d) ≡ true
        swap true d = refl
        swap false d = refl
    moved false true true d h = refl
    moved false true false d h = refl
    moved false false c d h = refl

-- the order of its ends does not change which vertices an arc touches
touches-unordered : (v : ℕ) (arc : ℕ × ℕ) → touches v (unordered arc) ≡ touches v arc
touches-unordered v arc = grind (arith, nat_tests)

-- nor which vertices arcs touch together
list_any-unordered : (v : ℕ) (arcs : List (ℕ × ℕ)) → list_any (touches v) (map unordered arcs) ≡ list_any (touches v) arcs
list_any-unordered v [] = refl
list_any-unordered v (arc ∷ arcs) = rw (touches-unordered v arc, list_any-unordered v arcs) refl

-- the same links have the same ends
same_ends : (v : ℕ) (xs ys : List (ℕ × ℕ)) → IsPermutation (map unordered xs) (map unordered ys) → list_any (touches v) xs ≡ list_any (touches v) ys
same_ends v xs ys h = sym (list_any-unordered v xs) ∙ (list_any-IsPermutation (touches v) (map unordered xs) (map unordered ys) h ∙ list_any-unordered v ys)

-- the start of a tree with arcs is an end of the first
start-ends : (I : Network) (start : ℕ) (arcs : List (ℕ × ℕ)) → Grows I (start ∷ []) arcs → ((v : ℕ) → list_any (touches v) arcs ≡ false) ⊎ (list_any (touches start) arcs ≡ true)
start-ends I start [] g = inl (λ v. refl)
start-ends I start (arc ∷ arcs) g = inr (elim (eqb_tells start arc.0) [
  | inl e ↦ rw (eq-eqb arc.0 start (sym e.1)) refl
  | inr e ↦ let none : (false || false) ≡ true = rw e.0 at g.1 in cc
])

-- two starts, one of which the tree of the other reaches, add the same to the ends
alike : (ends : ℕ → Bool) (old new v : ℕ) → ((x : ℕ) → ends x ≡ false) ⊎ (ends old ≡ true) → (((old == new) || false) || ends new) ≡ true → (((new == v) || false) || ends v) ≡ (((old == v) || false) || ends v)
alike ends old new v (inl none) there = elim (eqb_tells old new) [
  | inl e ↦ ap (λ x. ((x == v) || false) || ends v) (sym e.1)
  | inr e ↦ let no : ((false || false) || false) ≡ true = rw (e.0, none new) at there in cc
]
alike ends old new v (inr start) there = absorbed new new_too ∙ sym (absorbed old start)
  where
    new_too : ends new ≡ true
    new_too = elim (eqb_tells old new) [
      | inl e ↦ ap ends (sym e.1) ∙ start
      | inr e ↦ rw e.0 at there
    ]

    absorbed : (x : ℕ) → ends x ≡ true → (((x == v) || false) || ends v) ≡ ends v
    absorbed x h = elim (eqb_tells x v) [
      | inl e ↦ let here : ends v ≡ true = ap ends (sym e.1) ∙ h in rw (here, e.0) refl
      | inr e ↦ rw e.0 refl
    ]

-- the same links reach the same, from a start that is reached
same_reached : (I : Network) (t new : Tree) → IsArborescence I t → IsArborescence I new → IsTrue (has (reached t) new.start) → IsPermutation (map unordered new.arcs) (map unordered t.arcs) → (v : ℕ) → has (reached new) v ≡ has (reached t) v
same_reached I t new tree new_tree there links v =
    let ends : ℕ → Bool = λ x. list_any (touches x) t.arcs in
    let of_old : (x : ℕ) → has (reached t) x ≡ (((t.start == x) || false) || ends x) = λ x. has-reached_from_ends I (t.start ∷ []) t.arcs x tree.grows in
    let of_new : has (reached new) v ≡ (((new.start == v) || false) || ends v) = has-reached_from_ends I (new.start ∷ []) new.arcs v new_tree.grows ∙ ap (λ b. ((new.start == v) || false) || b) (same_ends v new.arcs t.arcs links) in
    of_new ∙ (alike ends t.start new.start v (start-ends I t.start t.arcs tree.grows) (sym (of_old new.start) ∙ there) ∙ sym (of_old v))

-- a link costs the same in either direction
arc_cost-unordered : (I : Network) (arc : ℕ × ℕ) → arc_cost I (unordered arc) ≡ arc_cost I arc
arc_cost-unordered I arc = elim (cases_lt arc.0 arc.1) [
  | inl below ↦
      let low : min arc.0 arc.1 ≡ arc.0 = omega arith in
      let high : max arc.0 arc.1 ≡ arc.1 = omega arith in
      rw (low, high) refl
  | inr above ↦
      let low : min arc.0 arc.1 ≡ arc.1 = omega arith in
      let high : max arc.0 arc.1 ≡ arc.0 = omega arith in
      rw (low, high) (ap (λ o. unwrap_or o 0) (link-comm I.links arc.1 arc.0))
]

-- and so do all of them
total-unordered : (I : Network) (arcs : List (ℕ × ℕ)) → total (arc_cost I) (map unordered arcs) ≡ total (arc_cost I) arcs
total-unordered I [] = refl
total-unordered I (arc ∷ arcs) = rw (arc_cost-unordered I arc, total-unordered I arcs) refl

-- a sum in another order
pub total-IsPermutation : {X : Type 0} (f : X → ℕ) (xs ys : List X) → IsPermutation xs ys → total f xs ≡ total f ys
total-IsPermutation f xs ys h = is_sum_by (total f) f refl (λ _ _. refl) xs ∙ (sym (sum_by-IsPermutation f xs ys h) ∙ sym (is_sum_by (total f) f refl (λ _ _. refl) ys))

-- the same links cost the same
same_links : (I : Network) (xs ys : List (ℕ × ℕ)) → IsPermutation (map unordered xs) (map unordered ys) → total (arc_cost I) xs ≡ total (arc_cost I) ys
same_links I xs ys h = sym (total-unordered I xs) ∙ (total-IsPermutation (arc_cost I) (map unordered xs) (map unordered ys) h ∙ total-unordered I ys)

-- what is regrown reaches the same at the same cost
pub regrown_is_alike : RegrownIsAlike
regrown_is_alike I t at new tree there regrown =
    let reached_same = same_reached I t new tree regrown.arborescence (ap (has (reached t)) regrown.start ∙ there) regrown.links in
    let missed_same = missed-same I I.n (reached t) (reached new) reached_same in
    (reached_same, omega (arith, same_links I new.arcs t.arcs regrown.links, missed_same))

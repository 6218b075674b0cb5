-- How many nodes a tree has that is read off what is complete, and how many of its closes weigh less than the least value.
use Rattle.std.proofs.Common.{◌≡◌, ℕ, ◌+◌, ◌≤◌, Bool, true, false, cond, List, [], ◌∷◌, ◌++◌, length, map, refl, sym, subst, arith, inl, inr, length-append}
use Rattle.std.specs.Prelude.{◌==◌, nat_lt}
use Rattle.std.proofs.lemmas.Bool.Decides.{nat_tests}
use Rattle.std.proofs.lemmas.List.{length-map}
use Rattle.st_model.specs.declared.branch.Branch.{Branch}
use Rattle.st_model.specs.Branch.{yes_half, no_half}
use Rattle.st_model.specs.Network.{Network}
use Rattle.cut_packing.specs.Packing.{weight}
use Rattle.cut_packing.specs.ProofTree.{ProofTree}
use Rattle.branching.specs.declared.node.Node.{Node}
use Rattle.search_core.specs.declared.gathered.Gathered.{Gathered}
use Rattle.search_core.specs.Complete.{IsComplete, IsMade, root, inside_of, outside_of, records, waiting, done_id, standing_ids, times}
use Rattle.search_core.specs.ReadOff.{CompleteCounts, SidesAreApart, IsReadOff, closed, waits, was_split, size, light_closes}
use Rattle.search_core.proofs.Ids.{among, made_times, times-append}
use Rattle.search_core.proofs.Times.{once_where, times-either, times-single, times_among, length-times}
use Rattle.search_core.proofs.TreeIds.{AreOnce, ids_of, length-ids_of, made_in_tree}
use Rattle.search_core.proofs.Apart.{standing_made, close_right, under, tree_once}

-- the ids of the closes that weigh less than x
abbrev light_ids : Network → ℕ → (G : Gathered) (id : ℕ) (p : ProofTree) → IsReadOff G id p → Branch → List ℕ
light_ids I x G id p (closed {id = a} {P} c) B = cond (nat_lt (weight I B P) x) (a ∷ []) []
light_ids I x G id p (waits {N} c) B = cond (nat_lt (weight I B N.packing) x) (N.id ∷ []) []
light_ids I x G id p (was_split {at} {i} {o} {inside} {outside} c l r) B = light_ids I x G i inside l (yes_half B at) ++ light_ids I x G o outside r (no_half B at)

length_one : (b : Bool) (a : ℕ) → length (cond b (a ∷ []) []) ≡ cond b 1 0
length_one true a = refl
length_one false a = refl

length-light_ids : (I : Network) (x : ℕ) (G : Gathered) (id : ℕ) (p : ProofTree) (read : IsReadOff G id p) (B : Branch) → length (light_ids I x G id p read B) ≡ light_closes I B x p
length-light_ids I x G id p (closed {id = a} {P} c) B = length_one (nat_lt (weight I B P) x) a
length-light_ids I x G id p (waits {N} c) B = length_one (nat_lt (weight I B N.packing) x) N.id
length-light_ids I x G id p (was_split {at} {i} {o} {inside} {outside} c l r) B =
    joined _ _ _ _ _ (length-append (light_ids I x G i inside l (yes_half B at)) (light_ids I x G o outside r (no_half B at))) (length-light_ids I x G i inside l (yes_half B at)) (length-light_ids I x G o outside r (no_half B at))
  where
    joined : (n a b s t : ℕ) → n ≡ a + b → a ≡ s → b ≡ t → n ≡ s + t
    joined n a b s t e f g = omega arith

of_one : (b : Bool) (a y : ℕ) → times y (cond b (a ∷ []) []) ≤ times y (a ∷ [])
of_one true a y = omega arith
of_one false a y = omega arith

-- they are ids of the tree
times-light_ids_le : (I : Network) (x : ℕ) (G : Gathered) (id : ℕ) (p : ProofTree) (read : IsReadOff G id p) (B : Branch) (y : ℕ) → times y (light_ids I x G id p read B) ≤ times y (ids_of G id p read)
times-light_ids_le I x G id p (closed {id = a} {P} c) B y = of_one (nat_lt (weight I B P) x) a y
times-light_ids_le I x G id p (waits {N} c) B y = of_one (nat_lt (weight I B N.packing) x) N.id y
times-light_ids_le I x G id p (was_split {id = a} {at} {i} {o} {inside} {outside} c l r) B y =
    rw (times-append y (light_ids I x G i inside l (yes_half B at)) (light_ids I x G o outside r (no_half B at)), times-append y (ids_of G i inside l) (ids_of G o outside r))
    (joined (cond (a == y) 1 0) _ _ _ _ (times-light_ids_le I x G i inside l (yes_half B at) y) (times-light_ids_le I x G o outside r (no_half B at) y))
  where
    joined : (e a b c d : ℕ) → a ≤ c → b ≤ d → a + b ≤ e + (c + d)
    joined e a b c d h k = omega arith

-- the closes below the least value are of nodes that wait
light_waits : (G : Gathered) (I : Network) (R : Branch) (start budget : ℕ) → IsComplete G I R start budget → (id : ℕ) (p : ProofTree) (read : IsReadOff G id p) (B : Branch) → IsMade R (records G) id B → (y : ℕ) → 1 ≤ times y (light_ids I G.least G id p read B) → 1 ≤ times y (map (λ (N : Node). N.id) (waiting G))
light_waits G I R start budget complete id p (closed {id = a} {P} c) B made y h = heavy (nat_lt (weight I B P) G.least) (not_less (weight I B P) G.least (close_right G I R start budget complete a P B c made)) h
  where
    not_less : (m n : ℕ) → n ≤ m → nat_lt m n ≡ false
    not_less m n k = grind (arith, nat_tests)

    none : 1 ≤ 0 → ⊥
    none k = omega arith

    heavy : (b : Bool) → b ≡ false → 1 ≤ times y (cond b (a ∷ []) []) → 1 ≤ times y (map (λ (N : Node). N.id) (waiting G))
    heavy true e k = absurd cc
    heavy false e k = absurd (none k)
light_waits G I R start budget complete id p (waits {N} c) B made y h = by_weight (nat_lt (weight I B N.packing) G.least) h
  where
    none : 1 ≤ 0 → ⊥
    none k = omega arith

    by_weight : (b : Bool) → 1 ≤ times y (cond b (N.id ∷ []) []) → 1 ≤ times y (map (λ (M : Node). M.id) (waiting G))
    by_weight true k = times_among (λ (M : Node). M.id) (waiting G) N y (among (waiting G) N c) (times-single y N.id k)
    by_weight false k = absurd (none k)
light_waits G I R start budget complete id p (was_split {at} {i} {o} {inside} {outside} c l r) B made y h =
    elim (times-either y (light_ids I G.least G i inside l (yes_half B at)) (light_ids I G.least G o outside r (no_half B at)) h) [
      | inl m ↦ light_waits G I R start budget complete i inside l (yes_half B at) (inside_of c made) y m
      | inr m ↦ light_waits G I R start budget complete o outside r (no_half B at) (outside_of c made) y m
    ]

-- no id stands twice
standing_once : (G : Gathered) (I : Network) (R : Branch) (start budget : ℕ) → IsComplete G I R start budget → AreOnce G
standing_once G I R start budget complete id = subst (λ (n : ℕ). n ≤ 1) (sym (complete.once id)) (complete.apart id)

-- who is in the tree was split or closed or waits
tree_stands : (G : Gathered) (I : Network) (R : Branch) (start budget : ℕ) → IsComplete G I R start budget → (p : ProofTree) (read : IsReadOff G 0 p) (x : ℕ) → 1 ≤ times x (ids_of G 0 p read) → 1 ≤ times x (standing_ids G)
tree_stands G I R start budget complete p read x h =
    let there = under G R 0 p read R root x h in
    subst (λ (n : ℕ). 1 ≤ n) (sym (complete.once x)) (made_times R (records G) x there.0 there.1)

-- and the other way round
stands_in_tree : (G : Gathered) (I : Network) (R : Branch) (start budget : ℕ) → IsComplete G I R start budget → (p : ProofTree) (read : IsReadOff G 0 p) (x : ℕ) → 1 ≤ times x (standing_ids G) → 1 ≤ times x (ids_of G 0 p read)
stands_in_tree G I R start budget complete p read x h =
    let made = standing_made G I R start budget complete x h in
    made_in_tree G R (standing_once G I R start budget complete) p read x made.0 made.1

length-standing_ids : (G : Gathered) → length (standing_ids G) ≡ length (records G) + length (waiting G)
length-standing_ids G = joined _ _ _ _ _ (length-append (map done_id (records G)) (map (λ (N : Node). N.id) (waiting G))) (length-map (records G) done_id) (length-map (waiting G) (λ (N : Node). N.id))
  where
    joined : (n a b s t : ℕ) → n ≡ a + b → a ≡ s → b ≡ t → n ≡ s + t
    joined n a b s t e f g = omega arith

size_of_all : (G : Gathered) (I : Network) (R : Branch) (start budget : ℕ) → SidesAreApart R → IsComplete G I R start budget → (p : ProofTree) → IsReadOff G 0 p → size p ≡ length (records G) + length (waiting G)
size_of_all G I R start budget sides complete p read =
    let once = standing_once G I R start budget complete in
    let no_more = length-times (ids_of G 0 p read) (standing_ids G) (λ x. once_where _ _ (tree_once G I R start budget sides complete 0 p read R root x) (tree_stands G I R start budget complete p read x)) in
    let no_less = length-times (standing_ids G) (ids_of G 0 p read) (λ x. once_where _ _ (once x) (stands_in_tree G I R start budget complete p read x)) in
    equal _ _ _ _ (length-ids_of G 0 p read) (length-standing_ids G) no_more no_less
  where
    equal : (m n s t : ℕ) → m ≡ s → n ≡ t → m ≤ n → n ≤ m → s ≡ t
    equal m n s t e f h k = omega arith

few_light : (G : Gathered) (I : Network) (R : Branch) (start budget : ℕ) → SidesAreApart R → IsComplete G I R start budget → (p : ProofTree) → IsReadOff G 0 p → light_closes I R G.least p ≤ length (waiting G)
few_light G I R start budget sides complete p read =
    let few = length-times (light_ids I G.least G 0 p read R) (map (λ (N : Node). N.id) (waiting G)) (λ x. once_where _ _ (at_most _ _ _ (times-light_ids_le I G.least G 0 p read R x) (tree_once G I R start budget sides complete 0 p read R root x)) (light_waits G I R start budget complete 0 p read R root x)) in
    same _ _ _ _ (length-light_ids I G.least G 0 p read R) (length-map (waiting G) (λ (N : Node). N.id)) few
  where
    at_most : (a b c : ℕ) → a ≤ b → b ≤ c → a ≤ c
    at_most a b c h k = omega arith

    same : (m n s t : ℕ) → m ≡ s → n ≡ t → m ≤ n → s ≤ t
    same m n s t e f h = omega arith

pub counts_lem : CompleteCounts
counts_lem G I R start budget p sides complete read = (size_of_all G I R start budget sides complete p read, few_light G I R start budget sides complete p read)

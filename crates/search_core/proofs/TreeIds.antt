-- The ids of the nodes of a tree that is read off.
use Rattle.std.proofs.Common.{◌≡◌, ℕ, suc, ◌+◌, ◌≤◌, List, [], ◌∷◌, ◌++◌, length, map, refl, subst, arith, inl, inr, length-append}
use Rattle.std.specs.Prelude.{Contains}
use Rattle.st_model.specs.declared.split_at.SplitAt.{SplitAt}
use Rattle.st_model.specs.declared.branch.Branch.{Branch}
use Rattle.cut_packing.specs.declared.packing.Packing.{Packing}
use Rattle.cut_packing.specs.ProofTree.{ProofTree}
use Rattle.branching.specs.declared.node.Node.{Node}
use Rattle.search_core.specs.declared.done.Done.{Done}
use Rattle.search_core.specs.declared.done.Done.TheVariants.{Split, Close}
use Rattle.search_core.specs.declared.gathered.Gathered.{Gathered}
use Rattle.search_core.specs.Complete.{IsMade, root, inside_of, outside_of, records, waiting, done_id, standing_ids, times}
use Rattle.search_core.specs.ReadOff.{IsReadOff, closed, waits, was_split, size}
use Rattle.search_core.proofs.Ids.{among, times-append}
use Rattle.search_core.proofs.Times.{times-head, times-tail, times-cases, times-left, times-right, times-either, times-not_both, times-single, times_among, same_of_id}

-- the ids of a tree's nodes, from its root on
abbrev pub ids_of : (G : Gathered) (id : ℕ) (p : ProofTree) → IsReadOff G id p → List ℕ
ids_of G id p (closed {id = a} c) = a ∷ []
ids_of G id p (waits {N} c) = N.id ∷ []
ids_of G id p (was_split {id = a} {i} {o} {inside} {outside} c l r) = a ∷ (ids_of G i inside l ++ ids_of G o outside r)

pub length-ids_of : (G : Gathered) (id : ℕ) (p : ProofTree) (read : IsReadOff G id p) → length (ids_of G id p read) ≡ size p
length-ids_of G id p (closed c) = refl
length-ids_of G id p (waits c) = refl
length-ids_of G id p (was_split {i} {o} {inside} {outside} c l r) = joined _ _ _ _ _ (length-append (ids_of G i inside l) (ids_of G o outside r)) (length-ids_of G i inside l) (length-ids_of G o outside r)
  where
    joined : (n a b s t : ℕ) → n ≡ a + b → a ≡ s → b ≡ t → suc n ≡ 1 + s + t
    joined n a b s t e f g = omega arith

-- the tree of an id has it
pub root_there : (G : Gathered) (id : ℕ) (p : ProofTree) (read : IsReadOff G id p) → 1 ≤ times id (ids_of G id p read)
root_there G id p (closed {id = a} c) = times-head a a [] refl
root_there G id p (waits {N} c) = times-head N.id N.id [] refl
root_there G id p (was_split {id = a} {i} {o} {inside} {outside} c l r) = times-head a a (ids_of G i inside l ++ ids_of G o outside r) refl

-- no two of the records and the nodes that wait have one id
abbrev pub AreOnce : Gathered → Type 0
AreOnce G = (id : ℕ) → times id (standing_ids G) ≤ 1

-- who was split or closed doesn't wait
not_both : (G : Gathered) (d : Done) (N : Node) → AreOnce G → Contains (records G) d → Contains (waiting G) N → N.id ≡ done_id d → ⊥
not_both G d N once c h is = times-not_both (done_id d) (map done_id (records G)) (map (λ (M : Node). M.id) (waiting G)) (once (done_id d)) (times_among done_id (records G) d (done_id d) (among (records G) d c) refl) (times_among (λ (M : Node). M.id) (waiting G) N (done_id d) (among (waiting G) N h) is)

-- who was split or closed was so once
one_record : (G : Gathered) (d e : Done) → AreOnce G → Contains (records G) d → Contains (records G) e → done_id d ≡ done_id e → d ≡ e
one_record G d e once c h is = same_of_id done_id (records G) (done_id e) d e (fewer _ _ (subst (λ (n : ℕ). n ≤ 1) (times-append (done_id e) (map done_id (records G)) (map (λ (M : Node). M.id) (waiting G))) (once (done_id e)))) (among (records G) d c) (among (records G) e h) is refl
  where
    fewer : (m n : ℕ) → m + n ≤ 1 → m ≤ 1
    fewer m n k = omega arith

-- two ids stand in a list
abbrev HasBoth : ℕ → ℕ → List ℕ → Type 0
HasBoth i o ids = (1 ≤ times i ids) × (1 ≤ times o ids)

both_inside : (i o b : ℕ) (xs ys : List ℕ) → HasBoth i o xs → HasBoth i o (b ∷ (xs ++ ys))
both_inside i o b xs ys (h, k) = (times-tail i b (xs ++ ys) (times-left i xs ys h), times-tail o b (xs ++ ys) (times-left o xs ys k))

both_outside : (i o b : ℕ) (xs ys : List ℕ) → HasBoth i o ys → HasBoth i o (b ∷ (xs ++ ys))
both_outside i o b xs ys (h, k) = (times-tail i b (xs ++ ys) (times-right i xs ys h), times-tail o b (xs ++ ys) (times-right o xs ys k))

both_roots : (i o j k b : ℕ) (xs ys : List ℕ) → j ≡ i → k ≡ o → 1 ≤ times j xs → 1 ≤ times k ys → HasBoth i o (b ∷ (xs ++ ys))
both_roots i o j k b xs ys e f m n = (
  times-tail i b (xs ++ ys) (times-left i xs ys (subst (λ (x : ℕ). 1 ≤ times x xs) e m)),
  times-tail o b (xs ++ ys) (times-right o xs ys (subst (λ (x : ℕ). 1 ≤ times x ys) f n)),
)

-- where a tree has a node that was split, it has both halves
goes_on : (G : Gathered) → AreOnce G → (a : ℕ) (at : SplitAt) (i o : ℕ) (P : Packing) → Contains (records G) (Split a at i o P) → (id : ℕ) (p : ProofTree) (read : IsReadOff G id p)
    → 1 ≤ times a (ids_of G id p read) → HasBoth i o (ids_of G id p read)
goes_on G once a at i o P there id p (closed {id = b} {P = Q} c) h =
    let same : Close b Q ≡ Split a at i o P = one_record G (Close b Q) (Split a at i o P) once c there (times-single a b h) in
    absurd cc
goes_on G once a at i o P there id p (waits {N} c) h = absurd (not_both G (Split a at i o P) N once there c (times-single a N.id h))
goes_on G once a at i o P there id p (was_split {id = b} {at = w} {i = j} {o = k} {P = Q} {inside} {outside} c l r) h =
    elim (times-cases a b (ids_of G j inside l ++ ids_of G k outside r) h) [
      | inl is ↦
          let same : Split b w j k Q ≡ Split a at i o P = one_record G (Split b w j k Q) (Split a at i o P) once c there is in
          let insides : j ≡ i = cc in
          let outsides : k ≡ o = cc in
          both_roots i o j k b (ids_of G j inside l) (ids_of G k outside r) insides outsides (root_there G j inside l) (root_there G k outside r)
      | inr rest ↦ elim (times-either a (ids_of G j inside l) (ids_of G k outside r) rest) [
        | inl m ↦ both_inside i o b (ids_of G j inside l) (ids_of G k outside r) (goes_on G once a at i o P there j inside l m)
        | inr m ↦ both_outside i o b (ids_of G j inside l) (ids_of G k outside r) (goes_on G once a at i o P there k outside r m)
      ]
    ]

-- each node that was made is one of the tree's
pub made_in_tree : (G : Gathered) (R : Branch) → AreOnce G → (p : ProofTree) (read : IsReadOff G 0 p) (id : ℕ) (B : Branch) → IsMade R (records G) id B → 1 ≤ times id (ids_of G 0 p read)
made_in_tree G R once p read id B root = root_there G 0 p read
made_in_tree G R once p read id B (inside_of {id = a} {at} {i} {o} {P} {B = C} c m) = (goes_on G once a at i o P c 0 p read (made_in_tree G R once p read a C m)).0
made_in_tree G R once p read id B (outside_of {id = a} {at} {i} {o} {P} {B = C} c m) = (goes_on G once a at i o P c 0 p read (made_in_tree G R once p read a C m)).1

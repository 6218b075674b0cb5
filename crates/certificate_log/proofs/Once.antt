-- Where under each id one record or one node stands at most, one tree is read off an id, and it is that of what stands there.
use Rattle.std.proofs.Common.{◌≡◌, ℕ, ◌+◌, ◌≤◌, Bool, true, cond, List, [], ◌∷◌, refl, sym, ap, ◌∙◌, subst, arith, inl, inr}
use Rattle.std.specs.Prelude.{◌==◌, Contains, ◌⊎◌, map}
use Rattle.std.proofs.lemmas.Bool.Decides.{nat_tests}
use Rattle.st_model.specs.declared.split_at.SplitAt.{SplitAt}
use Rattle.cut_packing.specs.declared.packing.Packing.{Packing}
use Rattle.cut_packing.specs.ProofTree.{ProofTree, close, split}
use Rattle.branching.specs.declared.node.Node.{Node}
use Rattle.search_core.specs.declared.done.Done.{Done}
use Rattle.search_core.specs.declared.done.Done.TheVariants.{Split, Close}
use Rattle.search_core.specs.declared.gathered.Gathered.{Gathered}
use Rattle.search_core.specs.Complete.{done_id, records, times, waiting}
use Rattle.search_core.specs.ReadOff.{IsReadOff, closed, waits, was_split}
use Rattle.search_core.proofs.Ids.{Among, among, times-append}
use Rattle.certificate_log.specs.Standing.{StandsOnce}

-- ---- one that stands under an id in a list

-- it counts
counts : {X : Type 0} (f : X → ℕ) (xs : List X) (x : X) (id : ℕ) → Among xs x → f x ≡ id → 1 ≤ times id (map f xs)
counts f [] x id there is = absurd there
counts f (y ∷ ys) x id (inl e) is = first (f y == id) (same (f y) id (ap f e ∙ is)) (times id (map f ys))
  where
    same : (a b : ℕ) → a ≡ b → (a == b) ≡ true
    same a b h = grind (arith, nat_tests)

    first : (b : Bool) → b ≡ true → (n : ℕ) → 1 ≤ cond b 1 0 + n
    first b e n = rw e (omega arith)
counts f (y ∷ ys) x id (inr later) is = more (cond (f y == id) 1 0) _ (counts f ys x id later is)
  where
    more : (a n : ℕ) → 1 ≤ n → 1 ≤ a + n
    more a n h = omega arith

-- two are one
one_of : {X : Type 0} (f : X → ℕ) (xs : List X) (x y : X) (id : ℕ) → times id (map f xs) ≤ 1 → Among xs x → Among xs y → f x ≡ id → f y ≡ id → x ≡ y
one_of f [] x y id once a b p q = absurd a
one_of f (z ∷ zs) x y id once (inl i) (inl j) p q = sym i ∙ j
one_of f (z ∷ zs) x y id once (inl i) (inr j) p q = absurd (twice (f z == id) (same (f z) id (ap f i ∙ p)) _ once (counts f zs y id j q))
  where
    same : (a b : ℕ) → a ≡ b → (a == b) ≡ true
    same a b h = grind (arith, nat_tests)

    twice : (b : Bool) → b ≡ true → (n : ℕ) → cond b 1 0 + n ≤ 1 → 1 ≤ n → ⊥
    twice b e n h k = let sum : 1 + n ≤ 1 = subst (λ (c : Bool). cond c 1 0 + n ≤ 1) e h in omega arith
one_of f (z ∷ zs) x y id once (inr i) (inl j) p q = absurd (twice (f z == id) (same (f z) id (ap f j ∙ q)) _ once (counts f zs x id i p))
  where
    same : (a b : ℕ) → a ≡ b → (a == b) ≡ true
    same a b h = grind (arith, nat_tests)

    twice : (b : Bool) → b ≡ true → (n : ℕ) → cond b 1 0 + n ≤ 1 → 1 ≤ n → ⊥
    twice b e n h k = let sum : 1 + n ≤ 1 = subst (λ (c : Bool). cond c 1 0 + n ≤ 1) e h in omega arith
one_of f (z ∷ zs) x y id once (inr i) (inr j) p q = one_of f zs x y id (less (cond (f z == id) 1 0) _ once) i j p q
  where
    less : (a n : ℕ) → a + n ≤ 1 → n ≤ 1
    less a n h = omega arith

-- ---- what stands under an id

module _ (G : Gathered) (once : StandsOnce G) where
  -- how often an id stands among the records, and among the nodes that wait
  abbrev in_records : ℕ → ℕ
  in_records id = times id (map done_id (records G))

  abbrev in_waiting : ℕ → ℕ
  in_waiting id = times id (map (λ (N : Node). N.id) (waiting G))

  both_once : (id : ℕ) → in_records id + in_waiting id ≤ 1
  both_once id = subst (λ (n : ℕ). n ≤ 1) (times-append id (map done_id (records G)) (map (λ (N : Node). N.id) (waiting G))) (once id)

  pub one_record : (d e : Done) → Contains (records G) d → Contains (records G) e → done_id d ≡ done_id e → d ≡ e
  one_record d e a b same =
      one_of done_id (records G) d e (done_id e) (less (in_records (done_id e)) (in_waiting (done_id e)) (both_once (done_id e))) (among (records G) d a) (among (records G) e b) same refl
    where
      less : (a n : ℕ) → a + n ≤ 1 → a ≤ 1
      less a n h = omega arith

  pub one_waiting : (N M : Node) → Contains (waiting G) N → Contains (waiting G) M → N.id ≡ M.id → N ≡ M
  one_waiting N M a b same =
      one_of (λ (K : Node). K.id) (waiting G) N M M.id (less (in_records M.id) (in_waiting M.id) (both_once M.id)) (among (waiting G) N a) (among (waiting G) M b) same refl
    where
      less : (a n : ℕ) → a + n ≤ 1 → n ≤ 1
      less a n h = omega arith

  pub not_both : (d : Done) (N : Node) → Contains (records G) d → Contains (waiting G) N → done_id d ≡ N.id → ⊥
  not_both d N a b same =
      two (in_records N.id) (in_waiting N.id) (both_once N.id) (counts done_id (records G) d N.id (among (records G) d a) same) (counts (λ (K : Node). K.id) (waiting G) N N.id (among (waiting G) N b) refl)
    where
      two : (a n : ℕ) → a + n ≤ 1 → 1 ≤ a → 1 ≤ n → ⊥
      two a n h k l = omega arith

  -- ---- the tree that is read off an id

  -- a split, and the trees of its halves
  pub record ReadsSplit (at : SplitAt) (i o : ℕ) (q : ProofTree) : Type 0 where
    pub inside : ProofTree
    pub outside : ProofTree
    pub is : q ≡ split at inside outside
    pub reads_inside : IsReadOff G i inside
    pub reads_outside : IsReadOff G o outside

  pub reads_split : (id : ℕ) (at : SplitAt) (i o : ℕ) (P : Packing) (j : ℕ) (q : ProofTree) → Contains (records G) (Split id at i o P) → j ≡ id → IsReadOff G j q → ReadsSplit at i o q
  reads_split id at i o P j q there is (closed {id = a} {P = Q} c) =
      let same : Close a Q ≡ Split id at i o P = one_record (Close a Q) (Split id at i o P) c there is in absurd cc
  reads_split id at i o P j q there is (waits {N} c) = absurd (not_both (Split id at i o P) N there c (sym is))
  reads_split id at i o P j q there is (was_split {id = a} {at = w} {i = k} {o = r} {P = Q} {inside = x} {outside = y} c first second) =
      let same : Split a w k r Q ≡ Split id at i o P = one_record (Split a w k r Q) (Split id at i o P) c there is in
      let same_place : w ≡ at = cc in
      let insides : k ≡ i = cc in
      let outsides : r ≡ o = cc in
      record {
        inside = x;
        outside = y;
        is = ap (λ (u : SplitAt). split u x y) same_place;
        reads_inside = subst (λ (n : ℕ). IsReadOff G n x) insides first;
        reads_outside = subst (λ (n : ℕ). IsReadOff G n y) outsides second;
      }

  pub reads_close : (id : ℕ) (P : Packing) (j : ℕ) (q : ProofTree) → Contains (records G) (Close id P) → j ≡ id → IsReadOff G j q → q ≡ close P
  reads_close id P j q there is (closed {id = a} {P = Q} c) =
      let same : Close a Q ≡ Close id P = one_record (Close a Q) (Close id P) c there is in
      let packing : Q ≡ P = cc in
      ap close packing
  reads_close id P j q there is (waits {N} c) = absurd (not_both (Close id P) N there c (sym is))
  reads_close id P j q there is (was_split {id = a} {at = w} {i = k} {o = r} {P = Q} c first second) =
      let same : Split a w k r Q ≡ Close id P = one_record (Split a w k r Q) (Close id P) c there is in absurd cc

  pub reads_waiting : (N : Node) (j : ℕ) (q : ProofTree) → Contains (waiting G) N → j ≡ N.id → IsReadOff G j q → q ≡ close N.packing
  reads_waiting N j q there is (closed {id = a} {P = Q} c) = absurd (not_both (Close a Q) N c there is)
  reads_waiting N j q there is (waits {N = M} c) = ap (λ (K : Node). close K.packing) (one_waiting M N c there is)
  reads_waiting N j q there is (was_split {id = a} {at = w} {i = k} {o = r} {P = Q} c first second) = absurd (not_both (Split a w k r Q) N c there is)

-- something stands under an id off which a tree is read
pub something_stands : (G : Gathered) (id : ℕ) (q : ProofTree) → IsReadOff G id q → ((d : Done) × Contains (records G) d × (done_id d ≡ id)) ⊎ ((N : Node) × Contains (waiting G) N × (N.id ≡ id))
something_stands G id q (closed {id = a} {P = Q} c) = inl (Close a Q, c, refl)
something_stands G id q (waits {N} c) = inr (N, c, refl)
something_stands G id q (was_split {id = a} {at} {i} {o} {P} c first second) = inl (Split a at i o P, c, refl)

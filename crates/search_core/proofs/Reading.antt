-- A proof tree is read off what is complete.
use Rattle.std.proofs.Common.{◌≡◌, ℕ, zero, suc, ◌+◌, ◌<◌, ◌≤◌, min, Bool, true, false, cond, List, [], ◌∷◌, map, refl, sym, ◌∙◌, subst, arith, inl, inr}
use Rattle.std.specs.Prelude.{◌==◌, Contains, All, ◌⊎◌}
use Rattle.std.specs.List.{flat_map}
use Rattle.std.proofs.lemmas.List.Elements.{All-contains, All-head, All-tail, Contains-append_cases}
use Rattle.st_model.specs.declared.split_at.SplitAt.{SplitAt}
use Rattle.st_model.specs.declared.branch.Branch.{Branch}
use Rattle.st_model.specs.Branch.{yes_half, no_half}
use Rattle.st_model.specs.Ground.{ground}
use Rattle.st_model.specs.Network.{Network}
use Rattle.st_model.proofs.Distinct.{link-comm}
use Rattle.cut_packing.specs.declared.packing.Packing.{Packing}
use Rattle.cut_packing.specs.Packing.{Fits, weight}
use Rattle.cut_packing.specs.ProofTree.{ProofTree, close, split, Proves, IsSplitAt}
use Rattle.branching.specs.declared.node.Node.{Node}
use Rattle.search_core.specs.declared.done.Done.{Done}
use Rattle.search_core.specs.declared.done.Done.TheVariants.{Split, Close}
use Rattle.search_core.specs.declared.gathered.Gathered.{Gathered}
use Rattle.search_core.specs.declared.gathered.Segment.{Segment}
use Rattle.search_core.specs.Complete.{IsComplete, IsMade, root, inside_of, outside_of, IsRightRecord, IsRightNode, IsRightSegment, records, waiting, done_id, times}
use Rattle.search_core.specs.ReadOff.{CompleteBounds, CompleteIsProof, IsReadOff, closed, waits, was_split, least_weight}
use Rattle.cut_packing.proofs.Duality.{proof_tree_bounds_lem}
use Rattle.search_core.proofs.Falling.{left, left_falls}
use Rattle.search_core.proofs.Ids.{one_branch, made_times, times-append}
use Rattle.search_core.proofs.Look.{same_number}

-- what proves a value proves a lower one
pub proves-lower : (I : Network) (B : Branch) (x y : ℕ) (p : ProofTree) → x ≤ y → Proves I B y p → Proves I B x p
proves-lower I B x y (close P) low h = record { fits = h.fits; weighs = at_most x y (weight I B P) low h.weighs }
  where
    at_most : (a b c : ℕ) → a ≤ b → b ≤ c → a ≤ c
    at_most a b c h k = omega arith
proves-lower I B x y (split at p q) low h = (h.0, proves-lower I (yes_half B at) x y p low h.1, proves-lower I (no_half B at) x y q low h.2)

-- who has an id that stands in a list
id_there : {X : Type 0} (f : X → ℕ) (xs : List X) (id : ℕ) → 1 ≤ times id (map f xs) → (x : X) × Contains xs x × (f x ≡ id)
id_there f [] id h = absurd (none h)
  where
    none : 1 ≤ 0 → ⊥
    none h = omega arith
id_there {X} f (x ∷ xs) id h = by_case (f x == id) refl h (id_there f xs id)
  where
    later : (y : X) × Contains xs y × (f y ≡ id) → (y : X) × Contains (x ∷ xs) y × (f y ≡ id)
    later (y, (k, below, is), e) = (y, (suc k, omega arith, is), e)

    rest_of : (n : ℕ) → 1 ≤ 0 + n → 1 ≤ n
    rest_of n h = omega arith

    by_case : (b : Bool) → (f x == id) ≡ b → 1 ≤ cond b 1 0 + times id (map f xs) → (1 ≤ times id (map f xs) → (y : X) × Contains xs y × (f y ≡ id)) → (y : X) × Contains (x ∷ xs) y × (f y ≡ id)
    by_case true is h rest = (x, (0, omega arith, refl), same_number (f x) id is)
    by_case false is h rest = later (rest (rest_of _ h))

-- a record of all workers is right
right_record : (I : Network) (R : Branch) (start least : ℕ) (done : List Done) (ss : List Segment) (d : Done) → All (IsRightSegment I R start least done) ss → Contains (flat_map (λ s. s.done) ss) d → (seen : ℕ) × (least ≤ seen) × IsRightRecord I R start done seen d
right_record I R start least done [] d all (k, below, is) = absurd (none k below)
  where
    none : (k : ℕ) → k < 0 → ⊥
    none k h = omega arith
right_record I R start least done (s ∷ ss) d all there =
    elim (Contains-append_cases s.done (flat_map (λ s. s.done) ss) d there) [
      | inl h ↦ (s.seen, (All-head (IsRightSegment I R start least done) s ss all).seen, All-contains (IsRightRecord I R start done s.seen) s.done d (All-head (IsRightSegment I R start least done) s ss all).records h)
      | inr h ↦ right_record I R start least done ss d (All-tail (IsRightSegment I R start least done) s ss all) h
    ]

-- a tree that is read off under an id, and proves the least weight of its closes for a branch
record Read (G : Gathered) (I : Network) (id : ℕ) (B : Branch) (p : ProofTree) : Type 0 where
  pub read : IsReadOff G id p
  pub proves : Proves I B (least_weight I B p) p
  pub least : waiting G ≡ [] → G.least ≤ least_weight I B p

read_close : (G : Gathered) (I : Network) (id a : ℕ) (B C : Branch) (P : Packing) → Contains (records G) (Close a P) → a ≡ id → C ≡ B → Fits I C P → G.least ≤ weight I C P → (p : ProofTree) × Read G I id B p
read_close G I id a B C P there is same fits heavy = (
  close P,
  record {
    least = λ none. subst (λ (D : Branch). G.least ≤ weight I D P) same heavy;
    read = subst (λ (n : ℕ). IsReadOff G n (close P)) is (closed there);
    proves = record { fits = subst (λ (D : Branch). Fits I D P) same fits; weighs = omega arith };
  },
)

read_node : (G : Gathered) (I : Network) (id : ℕ) (B : Branch) (N : Node) → Contains (waiting G) N → N.id ≡ id → N.branch ≡ B → Fits I N.branch N.packing → (p : ProofTree) × Read G I id B p
read_node G I id B N there is same fits = (
  close N.packing,
  record {
    least = λ none. absurd (nobody (subst (λ (ns : List Node). Contains ns N) none there));
    read = subst (λ (n : ℕ). IsReadOff G n (close N.packing)) is (waits there);
    proves = record { fits = subst (λ (D : Branch). Fits I D N.packing) same fits; weighs = omega arith };
  },
)
  where
    nobody : Contains [] N → ⊥
    nobody (k, below, is) = no_place k below
      where
        no_place : (k : ℕ) → k < 0 → ⊥
        no_place k h = omega arith

read_split : (G : Gathered) (I : Network) (id a : ℕ) (at : SplitAt) (i o : ℕ) (B : Branch) (P : Packing) → Contains (records G) (Split a at i o P) → a ≡ id → IsSplitAt I B at → (p : ProofTree) × Read G I i (yes_half B at) p → (p : ProofTree) × Read G I o (no_half B at) p → (p : ProofTree) × Read G I id B p
read_split G I id a at i o B P there is may (p, inside) (q, outside) = (
  split at p q,
  record {
    least = λ none. both_least _ _ _ (inside.least none) (outside.least none);
    read = subst (λ (n : ℕ). IsReadOff G n (split at p q)) is (was_split there inside.read outside.read);
    proves = (may, proves-lower I (yes_half B at) _ _ p (left_min _ _) inside.proves, proves-lower I (no_half B at) _ _ q (right_min _ _) outside.proves);
  },
)
  where
    both_least : (a b c : ℕ) → a ≤ b → a ≤ c → a ≤ min b c
    both_least a b c h k = omega arith

    left_min : (a b : ℕ) → min a b ≤ a
    left_min a b = omega arith

    right_min : (a b : ℕ) → min a b ≤ b
    right_min a b = omega arith

-- the node of a record that was made, where what decides more has a tree
read_record : (G : Gathered) (I : Network) (R : Branch) (start budget : ℕ) → IsComplete G I R start budget → (fuel id : ℕ) (B : Branch) → IsMade R (records G) id B → left I B < suc fuel → ((j : ℕ) (C : Branch) → IsMade R (records G) j C → left I C < fuel → (p : ProofTree) × Read G I j C p) → (d : Done) → Contains (records G) d → done_id d ≡ id → (seen : ℕ) × (G.least ≤ seen) × IsRightRecord I R start (records G) seen d → (p : ProofTree) × Read G I id B p
read_record G I R start budget complete fuel id B made low go (Split a at i o P) there is (seen, low_seen, (C, right)) =
    let same = one_branch R (records G) complete.apart a id C B right.made made is in
    let may : IsSplitAt I B at = subst (λ (D : Branch). IsSplitAt I D at) same right.vertex in
    let falls = left_falls I B at may in
    let mine : IsMade R (records G) a B = subst (λ (D : Branch). IsMade R (records G) a D) same right.made in
    read_split G I id a at i o B P there is may (go i (yes_half B at) (inside_of there mine) (less _ _ fuel falls.says_yes low)) (go o (no_half B at) (outside_of there mine) (less _ _ fuel falls.says_no low))
  where
    less : (a b c : ℕ) → a + 1 ≤ b → b < suc c → a < c
    less a b c h k = omega arith
read_record G I R start budget complete fuel id B made low go (Close a P) there is (seen, low_seen, (C, right)) =
    read_close G I id a B C P there is (one_branch R (records G) complete.apart a id C B right.made made is) right.packing.fits (at_least _ _ _ low_seen right.packing.weighs)
  where
    at_least : (a b c : ℕ) → a ≤ b → b ≤ c → a ≤ c
    at_least a b c h k = omega arith

-- a node that waits and was made
read_waiting : (G : Gathered) (I : Network) (R : Branch) (start budget : ℕ) → IsComplete G I R start budget → (id : ℕ) (B : Branch) → IsMade R (records G) id B → (N : Node) × Contains (waiting G) N × (N.id ≡ id) → (p : ProofTree) × Read G I id B p
read_waiting G I R start budget complete id B made (N, there, is) =
    let right = All-contains (IsRightNode I R (records G)) (waiting G) N complete.waiting there in
    read_node G I id B N there is (one_branch R (records G) complete.apart N.id id N.branch B right.made made is) right.fits

-- where an id that was made stands
stands_where : (G : Gathered) (I : Network) (R : Branch) (start budget : ℕ) → IsComplete G I R start budget → (id : ℕ) (B : Branch) → IsMade R (records G) id B → ((d : Done) × Contains (records G) d × (done_id d ≡ id)) ⊎ ((N : Node) × Contains (waiting G) N × (N.id ≡ id))
stands_where G I R start budget complete id B made =
    elim (one_of_both _ _ (subst (λ (n : ℕ). 1 ≤ n) (sym (complete.once id) ∙ times-append id (map done_id (records G)) (map (λ (N : Node). N.id) (waiting G))) (made_times R (records G) id B made))) [
      | inl h ↦ inl (id_there done_id (records G) id h)
      | inr h ↦ inr (id_there (λ (N : Node). N.id) (waiting G) id h)
    ]
  where
    one_of_both : (a b : ℕ) → 1 ≤ a + b → (1 ≤ a) ⊎ (1 ≤ b)
    one_of_both zero b h = inr (omega arith)
    one_of_both (suc a) b h = inl (omega arith)

-- each node that was made has a tree
read_off : (G : Gathered) (I : Network) (R : Branch) (start budget : ℕ) → IsComplete G I R start budget → (fuel id : ℕ) (B : Branch) → IsMade R (records G) id B → left I B < fuel → (p : ProofTree) × Read G I id B p
read_off G I R start budget complete zero id B made low = absurd (none (left I B) low)
  where
    none : (k : ℕ) → k < 0 → ⊥
    none k h = omega arith
read_off G I R start budget complete (suc fuel) id B made low =
    elim (stands_where G I R start budget complete id B made) [
      | inl d ↦ read_record G I R start budget complete fuel id B made low (λ j C m l. read_off G I R start budget complete fuel j C m l) d.0 d.1 d.2 (right_record I R start G.least (records G) G.segments d.0 complete.segments d.1)
      | inr N ↦ read_waiting G I R start budget complete id B made N
    ]

pub complete_lem : CompleteIsProof
complete_lem G I R start budget complete =
    let read = read_off G I R start budget complete (left I R + 1) 0 R root (omega arith) in
    (read.0, record { read = read.1.read; proves = read.1.proves })

pub bounds_lem : CompleteBounds
bounds_lem G I R start budget t apart complete none tree belongs =
    let read = read_off G I R start budget complete (left I R + 1) 0 R root (omega arith) in
    proof_tree_bounds_lem (ground I) R G.least read.0 t (link-comm I.links) apart (proves-lower I R G.least (least_weight I R read.0) read.0 (read.1.least none) read.1.proves) tree belongs

-- The least of the least value and of what the nodes that wait weigh is the least weight of the closes of a tree that is read off, up to the least value.
use Rattle.std.proofs.Common.{◌≡◌, ℕ, ◌≤◌, min, List, [], ◌∷◌, ◌++◌, refl, sym, ap, ◌∙◌, subst, arith, inl, inr}
use Rattle.std.specs.Prelude.{All, Contains}
use Rattle.std.specs.List.{AllByRecursion, flat_map}
use Rattle.std.proofs.lemmas.List.Elements.{All-contains, All-contains_itself, All-head, All-tail, All-weaker, Contains-append_cases, Contains-append_left, Contains-append_right, recursion_from_All}
use Rattle.std.proofs.lemmas.List.{flat_map_more}
use Rattle.st_model.specs.declared.split_at.SplitAt.{SplitAt}
use Rattle.st_model.specs.declared.split_at.SplitAt.TheVariants.{Vertex, Link}
use Rattle.st_model.specs.declared.branch.Branch.{Branch}
use Rattle.st_model.specs.Branch.{IsBranch, yes_half, no_half}
use Rattle.st_model.specs.Ground.{ground}
use Rattle.st_model.specs.Network.{Network, IsInstance}
use Rattle.st_model.proofs.Branches.{IsBranch-with_inside, IsBranch-with_outside, IsBranch-with_must, IsBranch-with_barred}
use Rattle.st_model.proofs.ThinGrowth.{linked-vertices}
use Rattle.cut_packing.specs.declared.packing.Packing.{Packing}
use Rattle.cut_packing.specs.Packing.{weight}
use Rattle.cut_packing.specs.ProofTree.{IsSplitAt, ProofTree}
use Rattle.branching.specs.declared.node.Node.{Node}
use Rattle.log_format.specs.declared.log.Version.TheVariants.{Two}
use Rattle.log_format.specs.Text.{IsWritableSplit}
use Rattle.log_format.proofs.Writable.{any_vertex}
use Rattle.search_core.specs.declared.done.Done.{Done}
use Rattle.search_core.specs.declared.done.Done.TheVariants.{Split, Close}
use Rattle.search_core.specs.declared.gathered.Gathered.{Gathered}
use Rattle.search_core.specs.declared.gathered.Segment.{Segment}
use Rattle.search_core.specs.Complete.{IsComplete, IsMade, IsRightNode, IsRightRecord, IsRightSegment, root, inside_of, outside_of, records, waiting}
use Rattle.search_core.specs.ReadOff.{IsReadOff, closed, waits, was_split, least_weight}
use Rattle.search_core.proofs.Ids.{Among, among, one_branch}
use Rattle.certificate_log.specs.Bound.{lowest_weight}
use Rattle.certificate_log.specs.Standing.{StandsOnce}
use Rattle.certificate_log.proofs.Once.{reads_split, reads_waiting}
use Rattle.certificate_log.proofs.Proved.{SplitsFit}

-- ---- the least of some numbers

pub lowest-append : (I : Network) (top : ℕ) (Ns Ms : List Node) → lowest_weight I top (Ns ++ Ms) ≡ lowest_weight I (lowest_weight I top Ns) Ms
lowest-append I top [] Ms = refl
lowest-append I top (N ∷ Ns) Ms = lowest-append I (min top (weight I N.branch N.packing)) Ns Ms

pub lowest-top : (I : Network) (top : ℕ) (Ns : List Node) → lowest_weight I top Ns ≤ top
lowest-top I top [] = omega arith
lowest-top I top (N ∷ Ns) = omega (arith, lowest-top I (min top (weight I N.branch N.packing)) Ns)

lowest-each : (I : Network) (top : ℕ) (Ns : List Node) (N : Node) → Among Ns N → lowest_weight I top Ns ≤ weight I N.branch N.packing
lowest-each I top [] N there = absurd there
lowest-each I top (M ∷ Ns) N (inl is) =
    subst (λ (K : Node). lowest_weight I (min top (weight I M.branch M.packing)) Ns ≤ weight I K.branch K.packing) is (omega (arith, lowest-top I (min top (weight I M.branch M.packing)) Ns))
lowest-each I top (M ∷ Ns) N (inr later) = lowest-each I (min top (weight I M.branch M.packing)) Ns N later

lowest-from : (I : Network) (x top : ℕ) (Ns : List Node) → x ≤ top → AllByRecursion (λ (N : Node). x ≤ weight I N.branch N.packing) Ns → x ≤ lowest_weight I top Ns
lowest-from I x top [] low each = low
lowest-from I x top (N ∷ Ns) low each = lowest-from I x (min top (weight I N.branch N.packing)) Ns (omega (arith, low, each.0)) each.1

-- ---- lists of nodes that workers left

-- the least of those so far, and of those of one worker more
pub lowest_more : (I : Network) (top bound : ℕ) (ss : List Segment) (s : Segment) → bound ≡ lowest_weight I top (flat_map (λ s. s.left) ss) → lowest_weight I bound s.left ≡ lowest_weight I top (flat_map (λ s. s.left) (ss ++ s ∷ []))
lowest_more I top bound ss s is =
    ap (λ (b : ℕ). lowest_weight I b s.left) is
    ∙ (sym (lowest-append I top (flat_map (λ (s : Segment). s.left) ss) s.left) ∙ ap (lowest_weight I top) (flat_map_more (λ (s : Segment). s.left) [] ss s))

pub all_left : {X : Type 0} (P : X → Type 0) (xs ys : List X) → All P (xs ++ ys) → All P xs
all_left P xs ys all = All-weaker (Contains xs) P (λ x there. All-contains P (xs ++ ys) x all (Contains-append_left xs ys x there)) xs (All-contains_itself xs)

pub all_right : {X : Type 0} (P : X → Type 0) (xs ys : List X) → All P (xs ++ ys) → All P ys
all_right P xs ys all = All-weaker (Contains ys) P (λ x there. All-contains P (xs ++ ys) x all (Contains-append_right xs ys x there)) ys (All-contains_itself ys)

-- what holds of all that workers left holds of what one left
pub all_of_one : (P : Node → Type 0) (ss : List Segment) (s : Segment) → All P (flat_map (λ s. s.left) ss) → Among ss s → All P s.left
all_of_one P [] s all there = absurd there
all_of_one P (z ∷ zs) s all (inl is) = subst (λ (t : Segment). All P t.left) is (all_left P z.left (flat_map (λ (s : Segment). s.left) zs) all)
all_of_one P (z ∷ zs) s all (inr later) = all_of_one P zs s (all_right P z.left (flat_map (λ (s : Segment). s.left) zs) all) later

-- ---- what was gathered

-- a record of all workers is right
right_record : (I : Network) (R : Branch) (start least : ℕ) (done : List Done) (ss : List Segment) (d : Done) → All (IsRightSegment I R start least done) ss → Contains (flat_map (λ s. s.done) ss) d
    → (seen : ℕ) × (least ≤ seen) × IsRightRecord I R start done seen d
right_record I R start least done [] d all there = absurd (among [] d there)
right_record I R start least done (s ∷ ss) d all there =
    elim (Contains-append_cases s.done (flat_map (λ s. s.done) ss) d there) [
      | inl h ↦ (s.seen, (All-head (IsRightSegment I R start least done) s ss all).seen, All-contains (IsRightRecord I R start done s.seen) s.done d (All-head (IsRightSegment I R start least done) s ss all).records h)
      | inr h ↦ right_record I R start least done ss d (All-tail (IsRightSegment I R start least done) s ss all) h
    ]

-- a split of a branch can be written in version 2
split_fits : (I : Network) (B : Branch) (at : SplitAt) → IsInstance I → IsSplitAt I B at → IsWritableSplit Two at
split_fits I B (Vertex v) instance may = any_vertex I v instance may.vertex
split_fits I B (Link a b) instance may =
    let ends = linked-vertices I a b instance may.linked in
    (refl, record { low = any_vertex I a instance ends.0; high = any_vertex I b instance ends.1; ordered = may.ordered })

-- both halves of a branch are branches
yes_branch : (I : Network) (B : Branch) (at : SplitAt) → IsInstance I → IsSplitAt I B at → IsBranch I B → IsBranch I (yes_half B at)
yes_branch I B (Vertex w) instance may branch = IsBranch-with_inside (ground I) B w may.vertex may.undecided branch
yes_branch I B (Link a b) instance may branch =
    let ends = linked-vertices I a b instance may.linked in
    IsBranch-with_must (ground I) B a b ends.0 ends.1 may.ordered may.linked may.low may.high may.no_must may.unbarred branch

no_branch : (I : Network) (B : Branch) (at : SplitAt) → IsSplitAt I B at → IsBranch I B → IsBranch I (no_half B at)
no_branch I B (Vertex w) may branch = IsBranch-with_outside (ground I) B w may.vertex may.undecided branch
no_branch I B (Link a b) may branch = IsBranch-with_barred (ground I) B a b may.ordered may.linked may.no_must may.unbarred branch

module _ (G : Gathered) (I : Network) (R : Branch) (start budget : ℕ) (complete : IsComplete G I R start budget) where
  pub once : StandsOnce G
  once id = subst (λ (n : ℕ). n ≤ 1) (sym (complete.once id)) (complete.apart id)

  -- the branch of a node that was split can be split there
  splits : (id : ℕ) (at : SplitAt) (i o : ℕ) (P : Packing) (B : Branch) → Contains (records G) (Split id at i o P) → IsMade R (records G) id B → IsSplitAt I B at
  splits id at i o P B there made =
      let (seen, low, (C, right)) = right_record I R start G.least (records G) G.segments (Split id at i o P) complete.segments there in
      subst (λ (D : Branch). IsSplitAt I D at) (one_branch R (records G) complete.apart id id C B right.made made refl) right.vertex

  -- and each split can be written in version 2
  pub splits_fit : IsInstance I → SplitsFit G
  splits_fit instance id at i o P there =
      let (seen, low, (C, right)) = right_record I R start G.least (records G) G.segments (Split id at i o P) complete.segments there in
      split_fits I C at instance right.vertex

  -- what was made is a branch
  made_branch : IsInstance I → IsBranch I R → (id : ℕ) (B : Branch) → IsMade R (records G) id B → IsBranch I B
  made_branch instance branch id B root = branch
  made_branch instance branch id B (inside_of {id = a} {at} {i} {o} {P} {B = C} there made) = yes_branch I C at instance (splits a at i o P C there made) (made_branch instance branch a C made)
  made_branch instance branch id B (outside_of {id = a} {at} {i} {o} {P} {B = C} there made) = no_branch I C at (splits a at i o P C there made) (made_branch instance branch a C made)

  -- and so is that of each node that waits
  pub waiting_branches : IsInstance I → IsBranch I R → All (λ (N : Node). IsBranch I N.branch) (waiting G)
  waiting_branches instance branch = All-weaker (IsRightNode I R (records G)) (λ (N : Node). IsBranch I N.branch) (λ N right. made_branch instance branch N.id N.branch right.made) (waiting G) complete.waiting

  module _ (p : ProofTree) (read : IsReadOff G 0 p) where
    -- the tree under an id is a part of the whole, and weighs no less
    record Part (id : ℕ) (B : Branch) : Type 0 where
      tree : ProofTree
      reads : IsReadOff G id tree
      heavy : least_weight I R p ≤ least_weight I B tree

    part : (id : ℕ) (B : Branch) → IsMade R (records G) id B → Part id B
    part id B root = record { tree = p; reads = read; heavy = omega arith }
    part id B (inside_of {id = a} {at} {i} {o} {P} {B = C} there made) =
        let above = part a C made in
        let r = reads_split G once a at i o P a above.tree there refl above.reads in
        let e : least_weight I C above.tree ≡ min (least_weight I (yes_half C at) r.inside) (least_weight I (no_half C at) r.outside) = ap (least_weight I C) r.is in
        record { tree = r.inside; reads = r.reads_inside; heavy = omega (arith, e, above.heavy) }
    part id B (outside_of {id = a} {at} {i} {o} {P} {B = C} there made) =
        let above = part a C made in
        let r = reads_split G once a at i o P a above.tree there refl above.reads in
        let e : least_weight I C above.tree ≡ min (least_weight I (yes_half C at) r.inside) (least_weight I (no_half C at) r.outside) = ap (least_weight I C) r.is in
        record { tree = r.outside; reads = r.reads_outside; heavy = omega (arith, e, above.heavy) }

    -- so a node that waits weighs no less than the least close
    waits_heavy : (N : Node) → Contains (waiting G) N → least_weight I R p ≤ weight I N.branch N.packing
    waits_heavy N there =
        let here = part N.id N.branch (All-contains (IsRightNode I R (records G)) (waiting G) N complete.waiting there).made in
        let e : least_weight I N.branch here.tree ≡ weight I N.branch N.packing = ap (least_weight I N.branch) (reads_waiting G once N N.id here.tree there refl here.reads) in
        omega (arith, e, here.heavy)

    -- and a close weighs no less than the least value or some node that waits
    closes_heavy : (id : ℕ) (B : Branch) (q : ProofTree) → IsMade R (records G) id B → IsReadOff G id q → lowest_weight I G.least (waiting G) ≤ least_weight I B q
    closes_heavy id B q made (closed {id = a} {P} there) =
        let (seen, low, (C, right)) = right_record I R start G.least (records G) G.segments (Close a P) complete.segments there in
        let same : C ≡ B = one_branch R (records G) complete.apart a a C B right.made made refl in
        let heavy : seen ≤ weight I B P = subst (λ (D : Branch). seen ≤ weight I D P) same right.packing.weighs in
        omega (arith, low, heavy, lowest-top I G.least (waiting G))
    closes_heavy id B q made (waits {N} there) =
        let right = All-contains (IsRightNode I R (records G)) (waiting G) N complete.waiting there in
        let same : N.branch ≡ B = one_branch R (records G) complete.apart N.id N.id N.branch B right.made made refl in
        subst (λ (D : Branch). lowest_weight I G.least (waiting G) ≤ weight I D N.packing) same (lowest-each I G.least (waiting G) N (among (waiting G) N there))
    closes_heavy id B q made (was_split {id = a} {at} {i} {o} {P} {inside} {outside} there first second) =
        let inner = closes_heavy i (yes_half B at) inside (inside_of there made) first in
        let outer = closes_heavy o (no_half B at) outside (outside_of there made) second in
        omega (arith, inner, outer)

    abbrev least : ℕ
    least = min G.least (least_weight I R p)

    pub lowest_is : lowest_weight I G.least (waiting G) ≡ min G.least (least_weight I R p)
    lowest_is =
        let below = lowest-top I G.least (waiting G) in
        let heavy = closes_heavy 0 R p root read in
        let above = lowest-from I least G.least (waiting G) (omega arith) (recursion_from_All (λ (N : Node). least ≤ weight I N.branch N.packing) (waiting G)
        (All-weaker (Contains (waiting G)) (λ (N : Node). least ≤ weight I N.branch N.packing) (λ N there. each N there) (waiting G) (All-contains_itself (waiting G)))) in
        omega (arith, below, heavy, above)
      where
        each : (N : Node) → Contains (waiting G) N → least ≤ weight I N.branch N.packing
        each N there = omega (arith, waits_heavy N there)

-- Where nothing waits, no close of a proof that is read off weighs less than the least value.
use Rattle.std.proofs.Common.{◌≡◌, ℕ, ◌≤◌, List, [], ◌∷◌, subst, refl, arith, inl, inr}
use Rattle.std.specs.Prelude.{Contains, All}
use Rattle.std.specs.List.{flat_map}
use Rattle.std.proofs.lemmas.List.Elements.{All-contains, All-head, All-tail, Contains-append_cases}
use Rattle.st_model.specs.declared.branch.Branch.{Branch}
use Rattle.st_model.specs.Branch.{yes_half, no_half}
use Rattle.st_model.specs.Network.{Network}
use Rattle.cut_packing.specs.declared.packing.Packing.{Packing}
use Rattle.cut_packing.specs.Packing.{weight}
use Rattle.cut_packing.specs.ProofTree.{ProofTree}
use Rattle.branching.specs.declared.node.Node.{Node}
use Rattle.search_core.specs.declared.done.Done.{Done}
use Rattle.search_core.specs.declared.done.Done.TheVariants.{Close}
use Rattle.search_core.specs.declared.gathered.Gathered.{Gathered}
use Rattle.search_core.specs.declared.gathered.Segment.{Segment}
use Rattle.search_core.specs.Complete.{IsComplete, IsMade, root, inside_of, outside_of, IsRightRecord, IsRightSegment, records, waiting}
use Rattle.search_core.specs.ReadOff.{IsReadOff, closed, waits, was_split, least_weight}
use Rattle.search_core.proofs.Ids.{one_branch}

nobody : {A : Type 0} (x : A) → Contains [] x → ⊥
nobody x (k, below, is) = omega arith

-- a record of all workers is right
right_record : (I : Network) (R : Branch) (start least : ℕ) (done : List Done) (ss : List Segment) (d : Done) → All (IsRightSegment I R start least done) ss → Contains (flat_map (λ s. s.done) ss) d → (seen : ℕ) × (least ≤ seen) × IsRightRecord I R start done seen d
right_record I R start least done [] d all there = absurd (nobody d there)
right_record I R start least done (s ∷ ss) d all there =
    let first = All-head (IsRightSegment I R start least done) s ss all in
    elim (Contains-append_cases s.done (flat_map (λ s. s.done) ss) d there) [
      | inl here ↦ (s.seen, first.seen, All-contains (IsRightRecord I R start done s.seen) s.done d first.records here)
      | inr later ↦ right_record I R start least done ss d (All-tail (IsRightSegment I R start least done) s ss all) later
    ]

-- a close of a node that was made weighs at least the least value
close_weighs : (G : Gathered) (I : Network) (R : Branch) (start budget id : ℕ) (B : Branch) (P : Packing) → IsComplete G I R start budget → IsMade R (records G) id B → Contains (records G) (Close id P) → G.least ≤ weight I B P
close_weighs G I R start budget id B P complete made there =
    let (seen, low, (C, right)) = right_record I R start G.least (records G) G.segments (Close id P) complete.segments there in
    let same : C ≡ B = one_branch R (records G) complete.apart id id C B right.made made refl in
    subst (λ (D : Branch). G.least ≤ weight I D P) same (at_least _ _ _ low right.packing.weighs)
  where
    at_least : (a b c : ℕ) → a ≤ b → b ≤ c → a ≤ c
    at_least a b c h k = omega arith

reads_heavy_at : (G : Gathered) (I : Network) (R : Branch) (start budget : ℕ) → IsComplete G I R start budget → waiting G ≡ [] → (id : ℕ) (B : Branch) (q : ProofTree) → IsMade R (records G) id B → IsReadOff G id q → G.least ≤ least_weight I B q
reads_heavy_at G I R start budget complete none id B q made (closed {id = a} {P} there) = close_weighs G I R start budget a B P complete made there
reads_heavy_at G I R start budget complete none id B q made (waits {N} there) = absurd (nobody N (subst (λ (Ns : List Node). Contains Ns N) none there))
reads_heavy_at G I R start budget complete none id B q made (was_split {id = a} {at} {i} {o} {P} {inside} {outside} there first second) =
    let inner = reads_heavy_at G I R start budget complete none i (yes_half B at) inside (inside_of there made) first in
    let outer = reads_heavy_at G I R start budget complete none o (no_half B at) outside (outside_of there made) second in
    omega (arith, inner, outer)

pub reads_heavy : (G : Gathered) (I : Network) (R : Branch) (start budget : ℕ) (q : ProofTree) → IsComplete G I R start budget → waiting G ≡ [] → IsReadOff G 0 q → G.least ≤ least_weight I R q
reads_heavy G I R start budget q complete none read = reads_heavy_at G I R start budget complete none 0 R q root read

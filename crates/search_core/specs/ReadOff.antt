-- The proof tree that is read off what was gathered.
use Rattle.std.specs.Prelude.{◌≡◌, ℕ, ◌≤◌, min, IsTrue, IsFalse, [], All, Contains}
use Rattle.std.specs.Prelude.{◌+◌, ◌^◌, ◌<◌, length, nat_lt, if◌then◌else◌}
use Rattle.st_model.specs.declared.split_at.SplitAt.{SplitAt}
use Rattle.st_model.specs.declared.branch.Branch.{Branch}
use Rattle.st_model.specs.Branch.{Belongs, yes_half, no_half}
use Rattle.st_model.specs.declared.tree.Tree.{Tree}
use Rattle.st_model.specs.Arborescence.{IsTree, cost}
use Rattle.st_model.specs.Linked.{open_pairs}
use Rattle.st_model.specs.Lists.{has}
use Rattle.st_model.specs.Made.{AreApart, has_pair}
use Rattle.st_model.specs.Network.{Network, IsInstance}
use Rattle.cut_packing.specs.declared.packing.Packing.{Packing}
use Rattle.cut_packing.specs.Packing.{weight}
use Rattle.cut_packing.specs.ProofTree.{ProofTree, close, split, Proves}
use Rattle.branching.specs.declared.node.Node.{Node}
use Rattle.search_core.specs.declared.done.Done.TheVariants.{Split, Close}
use Rattle.search_core.specs.declared.gathered.Gathered.{Gathered}
use Rattle.search_core.specs.Complete.{IsAtVertex, IsComplete, records, waiting}
use Rattle.search_core.specs.FreeVertices.{free_count}

-- the tree of the node under an id: where it was split, the trees of both halves, and else a close by its packing
pub data IsReadOff (G : Gathered) : ℕ → ProofTree → Type 0 where
  closed : {id : ℕ} {P : Packing} → Contains (records G) (Close id P) → IsReadOff G id (close P)
  waits : {N : Node} → Contains (waiting G) N → IsReadOff G N.id (close N.packing)
  was_split : {id : ℕ} {at : SplitAt} {i o : ℕ} {P : Packing} {inside outside : ProofTree} → Contains (records G) (Split id at i o P) → IsReadOff G i inside → IsReadOff G o outside → IsReadOff G id (split at inside outside)

-- the least weight of the closes of a tree for a branch
abbrev pub least_weight : Network → Branch → ProofTree → ℕ
least_weight I B (close P) = weight I B P
least_weight I B (split at inside outside) = min (least_weight I (yes_half B at) inside) (least_weight I (no_half B at) outside)

-- a tree is read off the whole, and proves the least weight of its closes for the branch of the node with id 0
pub record ProvesItsLeast (G : Gathered) (I : Network) (R : Branch) (p : ProofTree) : Type 0 where
  pub read : IsReadOff G 0 p
  pub proves : Proves I R (least_weight I R p) p

-- what is complete is a proof tree
abbrev pub CompleteIsProof : Type 0
CompleteIsProof = (G : Gathered) (I : Network) (R : Branch) (start budget : ℕ) → IsComplete G I R start budget → (p : ProofTree) × ProvesItsLeast G I R p

-- where nothing is left to do, every tree of that branch costs at least the least value, if no link is a must of it twice
abbrev pub CompleteBounds : Type 0
CompleteBounds = (G : Gathered) (I : Network) (R : Branch) (start budget : ℕ) (t : Tree) → AreApart R.must → IsComplete G I R start budget → waiting G ≡ [] → IsTree I t → Belongs R t → G.least ≤ cost I t

-- how many splits and closes a tree has
abbrev pub size : ProofTree → ℕ
size (close P) = 1
size (split at inside outside) = 1 + size inside + size outside

-- how many of the closes of a tree for a branch weigh less than x
abbrev pub light_closes : Network → Branch → ℕ → ProofTree → ℕ
light_closes I B x (close P) = if nat_lt (weight I B P) x then 1 else 0
light_closes I B x (split at inside outside) = light_closes I (yes_half B at) x inside + light_closes I (no_half B at) x outside

-- no vertex is both inside and outside, and no link is both a must and barred
pub record SidesAreApart (B : Branch) : Type 0 where
  pub vertices : (v : ℕ) → IsTrue (has B.inside v) → IsFalse (has B.outside v)
  pub links : (u v : ℕ) → IsTrue (has_pair B.must u v) → IsFalse (has_pair B.barred u v)

-- a tree that is read off what is complete has a split or a close for each record and each node that waits, and of its
-- closes no more weigh less than the least value than nodes wait
abbrev pub CompleteCounts : Type 0
CompleteCounts = (G : Gathered) (I : Network) (R : Branch) (start budget : ℕ) (p : ProofTree) → SidesAreApart R → IsComplete G I R start budget → IsReadOff G 0 p
    → (size p ≡ length (records G) + length (waiting G)) × (light_closes I R G.least p ≤ length (waiting G))

-- a tree that is read off what is complete, where no node was split at a link, has fewer splits and closes than two to the
-- power of one more than the vertices that the branch of the node with id 0 leaves free
abbrev pub CompleteIsFew : Type 0
CompleteIsFew = (G : Gathered) (I : Network) (R : Branch) (start budget : ℕ) (p : ProofTree) → All IsAtVertex (records G) → IsComplete G I R start budget → IsReadOff G 0 p → size p < 2 ^ (free_count I R + 1)

-- where nodes may be split at links too, the pairs of linked vertices that the branch leaves open count as well
abbrev pub CompleteIsFewWithLinks : Type 0
CompleteIsFewWithLinks = (G : Gathered) (I : Network) (R : Branch) (start budget : ℕ) (p : ProofTree) → IsInstance I → IsComplete G I R start budget → IsReadOff G 0 p → size p < 2 ^ (free_count I R + open_pairs I R + 1)

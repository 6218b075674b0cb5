-- A branch of the search: vertices that are to be reached or avoided, and links that are to be used or done without.
use Rattle.std.specs.Prelude.{◌≡◌, ℕ, ◌<◌, IsTrue, IsFalse, IsSome, Bool, not, ◌&&◌, ◌||◌, if◌then◌else◌, nat_lt, List, [], ◌∷◌, ◌++◌, All, Option, None}
use Rattle.std.specs.List.Sorted.{IsStrictlyIncreasing}
use Rattle.st_model.specs.declared.branch.Branch.{Branch}
use Rattle.st_model.specs.declared.split_at.SplitAt.{SplitAt}
use Rattle.st_model.specs.declared.split_at.SplitAt.TheVariants.{Vertex, Link}
use Rattle.st_model.specs.declared.tree.Tree.{Tree}
use Rattle.st_model.specs.Lists.{has}
use Rattle.st_model.specs.Network.{Network, IsVertex}
use Rattle.st_model.specs.Made.{has_pair, AreApart}
use Rattle.st_model.specs.Arborescence.{reached}
use Rattle.st_model.specs.Ground.{Ground, ground}

-- a set of vertices as it is written: ascending, so each once, and all from 1 to n
pub record IsVertexSet (n : ℕ) (set : List ℕ) : Type 0 where
  pub ascending : IsStrictlyIncreasing set
  pub in_range : All (IsVertex n) set

-- of the vertices up to the last, those that pass the test, ascending
pub record AreThose (test : ℕ → Bool) (last : ℕ) (list : List ℕ) : Type 0 where
  pub set : IsVertexSet last list
  pub same : (v : ℕ) → IsVertex last v → has list v ≡ test v

-- links of the ground, each once and with its lower end first
pub record AreLinksIn (G : Ground) (pairs : List (ℕ × ℕ)) : Type 0 where
  pub ordered : All (λ pair. pair.0 < pair.1) pairs
  pub linked : All (λ pair. IsSome (G.price pair.0 pair.1)) pairs
  pub apart : AreApart pairs

-- no vertex is both inside and outside, no link is both a must and barred, and the ends of those that are a must are inside
pub record IsBranchIn (G : Ground) (B : Branch) : Type 0 where
  pub inside : IsVertexSet G.n B.inside
  pub outside : IsVertexSet G.n B.outside
  pub apart : (v : ℕ) → IsTrue (has B.inside v) → IsFalse (has B.outside v)
  pub must : AreLinksIn G B.must
  pub barred : AreLinksIn G B.barred
  pub unbarred : All (λ pair. IsFalse (has_pair B.barred pair.0 pair.1)) B.must
  pub ends : All (λ pair. IsTrue (has B.inside pair.0) × IsTrue (has B.inside pair.1)) B.must

-- no required vertex is outside
abbrev pub LeavesRequiredIn : Ground → Branch → Type 0
LeavesRequiredIn G B = (v : ℕ) → IsTrue (has B.outside v) → IsFalse (G.required v)

-- nothing is said of any link
pub record IsPlain (B : Branch) : Type 0 where
  pub must : B.must ≡ []
  pub barred : B.barred ≡ []

-- the tree reaches all of the inside and none of the outside
pub record ReachesAsTold (B : Branch) (t : Tree) : Type 0 where
  pub inside : (v : ℕ) → IsTrue (has B.inside v) → IsTrue (has (reached t) v)
  pub outside : (v : ℕ) → IsTrue (has B.outside v) → IsFalse (has (reached t) v)

-- each link that is a must is an arc of the tree, in one direction or the other, and none that is barred
pub record UsesAsTold (B : Branch) (t : Tree) : Type 0 where
  pub must : (u v : ℕ) → IsTrue (has_pair B.must u v) → IsTrue (has_pair t.arcs u v)
  pub barred : (u v : ℕ) → IsTrue (has_pair B.barred u v) → IsFalse (has_pair t.arcs u v)

-- the tree is one of the branch: it reaches and uses what it is told to
pub record Belongs (B : Branch) (t : Tree) : Type 0 where
  pub reaches : ReachesAsTold B t
  pub uses : UsesAsTold B t

-- the branch of the trees that reach these vertices and none of those
abbrev pub deciding : List ℕ → List ℕ → Branch
deciding inside outside = record { inside = inside; outside = outside; must = []; barred = [] }

-- the branch of the trees that reach nobody gone
abbrev pub avoiding : List ℕ → Branch
avoiding gone = deciding [] gone

-- the branch of all trees
abbrev pub all_trees : Branch
all_trees = deciding [] []

abbrev pub is_present : Branch → ℕ → Bool
is_present B v = not (has B.outside v)

abbrev pub is_undecided : Branch → ℕ → Bool
is_undecided B v = not (has B.inside v) && not (has B.outside v)

-- the cost of the arc from u to v, unless its link is barred
abbrev pub open_price : Ground → Branch → ℕ → ℕ → Option ℕ
open_price G B u v = if has_pair B.barred u v then None else G.price u v

-- every tree of the branch reaches v: it is required or inside
abbrev pub certain_in : Ground → Branch → ℕ → Bool
certain_in G B v = G.required v || has B.inside v

-- no vertex is required or inside
abbrev pub NoneIsCertainIn : Ground → Branch → Type 0
NoneIsCertainIn G B = (v : ℕ) → IsVertex G.n v → IsFalse (certain_in G B v)

-- v may be reached or not: it is neither required nor decided
abbrev pub free_in : Ground → Branch → ℕ → Bool
free_in G B v = is_undecided B v && not (G.required v)

-- the same in a network
abbrev pub IsBranch : Network → Branch → Type 0
IsBranch I B = IsBranchIn (ground I) B

abbrev pub LeavesRequired : Network → Branch → Type 0
LeavesRequired I B = LeavesRequiredIn (ground I) B

abbrev pub open_link : Network → Branch → ℕ → ℕ → Option ℕ
open_link I B u v = open_price (ground I) B u v

abbrev pub is_certain : Network → Branch → ℕ → Bool
is_certain I B v = certain_in (ground I) B v

abbrev pub NoneIsCertain : Network → Branch → Type 0
NoneIsCertain I B = NoneIsCertainIn (ground I) B

abbrev pub is_free : Network → Branch → ℕ → Bool
is_free I B v = free_in (ground I) B v

-- the set with v, in its place
abbrev pub with_vertex : List ℕ → ℕ → List ℕ
with_vertex [] v = v ∷ []
with_vertex (x ∷ xs) v = if nat_lt x v then x ∷ with_vertex xs v else v ∷ x ∷ xs

-- the two halves of a branch at an undecided vertex
abbrev pub with_inside : Branch → ℕ → Branch
with_inside B v = record B { inside = with_vertex B.inside v }

abbrev pub with_outside : Branch → ℕ → Branch
with_outside B v = record B { outside = with_vertex B.outside v }

-- the set with v, once
abbrev pub joined : List ℕ → ℕ → List ℕ
joined xs v = if has xs v then xs else with_vertex xs v

-- the two halves of a branch at a link: its ends come inside where it is used
abbrev pub with_must : Branch → ℕ → ℕ → Branch
with_must B a b = record B { inside = joined (joined B.inside a) b; must = B.must ++ (a, b) ∷ [] }

abbrev pub with_barred : Branch → ℕ → ℕ → Branch
with_barred B a b = record B { barred = B.barred ++ (a, b) ∷ [] }

-- the half that says yes to a split: its trees reach the vertex, or use the link
abbrev pub yes_half : Branch → SplitAt → Branch
yes_half B (Vertex v) = with_inside B v
yes_half B (Link a b) = with_must B a b

-- the half that says no: its trees avoid the vertex, or do without the link
abbrev pub no_half : Branch → SplitAt → Branch
no_half B (Vertex v) = with_outside B v
no_half B (Link a b) = with_barred B a b

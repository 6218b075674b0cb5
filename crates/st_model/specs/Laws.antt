-- Laws about trees and branches, on which the search rests.
use Rattle.std.specs.Prelude.{◌≡◌, ◌↔◌, ℕ, ◌+◌, ◌⊎◌, IsTrue, IsFalse, []}
use Rattle.st_model.specs.declared.branch.Branch.{Branch}
use Rattle.st_model.specs.declared.split_at.SplitAt.{SplitAt}
use Rattle.st_model.specs.declared.tree.Tree.{Tree}
use Rattle.st_model.specs.Lists.{has, sum_to}
use Rattle.st_model.specs.Network.{Network, IsVertex, pays}
use Rattle.st_model.specs.Ground.{Ground}
use Rattle.st_model.specs.Made.{has_pair}
use Rattle.st_model.specs.Arborescence.{IsArborescenceIn, cost, reached}
use Rattle.st_model.specs.Branch.{Belongs, with_inside, with_outside, with_must, with_barred, yes_half, no_half}

-- a tree without arcs costs the prizes of all vertices but its start
abbrev pub LoneStartsMissTheRest : Type 0
LoneStartsMissTheRest = (I : Network) (t : Tree) → IsVertex I.n t.start → t.arcs ≡ [] → cost I t + pays I t.start ≡ sum_to (pays I) I.n

-- the half with v inside has the branch's trees that reach v
abbrev pub InsideHasThoseThatReach : Type 0
InsideHasThoseThatReach = (B : Branch) (t : Tree) (v : ℕ) → Belongs (with_inside B v) t ↔ (Belongs B t × IsTrue (has (reached t) v))

-- the half with v outside has the branch's other trees
abbrev pub OutsideHasTheOthers : Type 0
OutsideHasTheOthers = (B : Branch) (t : Tree) (v : ℕ) → Belongs (with_outside B v) t ↔ (Belongs B t × IsFalse (has (reached t) v))

-- the half where the link between a and b is a must has the branch's trees that use it
abbrev pub MustHasThoseThatUse : Type 0
MustHasThoseThatUse = (G : Ground) (B : Branch) (t : Tree) (a b : ℕ) → IsArborescenceIn G t → Belongs (with_must B a b) t ↔ (Belongs B t × IsTrue (has_pair t.arcs a b))

-- the half where it is barred has the branch's other trees
abbrev pub BarredHasTheOthers : Type 0
BarredHasTheOthers = (B : Branch) (t : Tree) (a b : ℕ) → Belongs (with_barred B a b) t ↔ (Belongs B t × IsFalse (has_pair t.arcs a b))

-- a tree of the branch belongs to one half
abbrev pub EachTreeIsInAHalf : Type 0
EachTreeIsInAHalf = (G : Ground) (B : Branch) (t : Tree) (at : SplitAt) → IsArborescenceIn G t → Belongs B t → Belongs (yes_half B at) t ⊎ Belongs (no_half B at) t

-- and to no more than one
abbrev pub NoTreeIsInBoth : Type 0
NoTreeIsInBoth = (G : Ground) (B : Branch) (t : Tree) (at : SplitAt) → IsArborescenceIn G t → Belongs (yes_half B at) t → Belongs (no_half B at) t → ⊥

-- The laws on what an ascent adds to a packing.
use Rattle.std.specs.Prelude.{◌≡◌, ℕ, ◌+◌, ◌++◌, ◌⊎◌, IsTrue, [], Some}
use Rattle.st_model.specs.declared.branch.Branch.{Branch}
use Rattle.st_model.specs.Branch.{IsBranch, LeavesRequired, is_certain, is_undecided, with_inside}
use Rattle.st_model.specs.Network.{IsVertex}
use Rattle.graph_store.specs.Graph.{Graph, IsGraph}
use Rattle.bidirected_form.specs.Digraph.{Digraph}
use Rattle.prize_transform.specs.Twins.{Ends}
use Rattle.cut_packing.specs.declared.packing.Packing.{Packing}
use Rattle.cut_packing.specs.Packing.{Fits, base_weight}
use Rattle.cut_packing.specs.Full.{IsFull}
use Rattle.graph_store.specs.Whole.{IsWhole}
use Rattle.dual_ascent.specs.declared.ascent.Ascent.{Ascent}
use Rattle.dual_ascent.specs.declared.ascent.Ascent.TheVariants.{Full, Reached}
use Rattle.dual_ascent.specs.Left.{AreLeft, FitsLeft, raised}
use Rattle.dual_ascent.specs.Ascent.{ReachesAll}
use Rattle.dual_ascent.specs.Levels.{AreCutsFor}

-- the packing with the cuts of another after its own, and the other's root
abbrev pub joined : Packing → Packing → Packing
joined P A = record { root = A.root; cuts = P.cuts ++ A.cuts }

-- the ascent with the cuts of a packing before its own
abbrev pub joined_ascent : Packing → Ascent → Ascent
joined_ascent P (Full A) = Full (joined P A)
joined_ascent P (Reached A) = Reached (joined P A)

-- a packing that fits a branch, and what it leaves of the branch's arcs and prizes
pub record IsCharged (g : Graph) (B : Branch) (P : Packing) (D : Digraph) (E : Ends) : Type 0 where
  pub whole : IsWhole g
  pub branch : IsBranch g.network B
  pub required : LeavesRequired g.network B
  pub fits : Fits g.network B P
  pub left : AreLeft g B P.cuts D E
  pub certain : IsTrue (is_certain g.network B D.root)
  pub root : (P.cuts ≡ []) ⊎ (P.root ≡ Some D.root)

-- with a packing that fits what is left it fits the branch, and the base weight of both is its own and what the other one's cuts raise it by
abbrev pub JoinedFits : Type 0
JoinedFits = (g : Graph) (B : Branch) (P : Packing) (D : Digraph) (E : Ends) (A : Packing) → IsGraph g → IsVertex g.network.n D.root → IsCharged g B P D E → FitsLeft D E A
    → Fits g.network B (joined P A) × (base_weight g.network B (joined P A) ≡ base_weight g.network B P + raised A.cuts)

-- with cuts for an undecided vertex it fits the half where that is inside
abbrev pub JoinedInsideFits : Type 0
JoinedInsideFits = (g : Graph) (B : Branch) (P : Packing) (D : Digraph) (E : Ends) (v : ℕ) (A : Packing) → IsGraph g → IsVertex g.network.n D.root → IsCharged g B P D E → IsTrue (is_undecided B v) → AreCutsFor D v A
    → Fits g.network (with_inside B v) (joined P A) × (base_weight g.network (with_inside B v) (joined P A) ≡ base_weight g.network B P + raised A.cuts)

-- with cuts past which the root reaches all it is full
abbrev pub JoinedIsFull : Type 0
JoinedIsFull = (g : Graph) (B : Branch) (P : Packing) (D : Digraph) (E : Ends) (A : Packing) → IsCharged g B P D E → A.root ≡ Some D.root → ReachesAll D E A.cuts
    → IsFull g.network B (joined P A)

-- What is raised, and which of two ascents goes on.
use Rattle.std.specs.Prelude.{◌≡◌, ℕ, ◌-◌, ◌≤◌, ◌⊎◌, All, ⊤}
use Rattle.st_model.specs.declared.branch.Branch.{Branch}
use Rattle.st_model.specs.Branch.{IsVertexSet}
use Rattle.st_model.specs.Network.{Network}
use Rattle.graph_store.specs.Graph.{Graph}
use Rattle.cut_packing.specs.declared.packing.Packing.{Packing}
use Rattle.cut_packing.specs.Packing.{base_weight}
use Rattle.dual_ascent.specs.declared.ascent.Ascent.{Ascent}
use Rattle.dual_ascent.specs.declared.ascent.Ascent.TheVariants.{Full, Reached}
use Rattle.dual_ascent.specs.declared.extension.Extension.{Extension}
use Rattle.dual_ascent.specs.Extension.{IsExtension, IsRootFor, IsStart, packing_of}
use Rattle.dual_ascent.specs.Laws.{IsCharged}
use Rattle.dual_ascent.specs.Left.{AreEndsOf}

-- the second weighs what was asked for, or no less than the first
abbrev pub IsNoWorse : Network → Branch → Ascent → Ascent → Type 0
IsNoWorse I B first (Full P) = base_weight I B (packing_of first) ≤ base_weight I B P
IsNoWorse I B first (Reached P) = ⊤

-- the first, where it is no lighter than the second, or the second, where that is no worse
abbrev pub IsHeavier : Network → Branch → Extension → Extension → Extension → Type 0
IsHeavier I B first second chosen = ((chosen ≡ first) × (base_weight I B (packing_of second.ascent) ≤ base_weight I B (packing_of first.ascent)))
    ⊎ ((chosen ≡ second) × IsNoWorse I B first.ascent second.ascent)

-- the packing weighs no more than this, and can be extended for the root until it does
pub record IsExtendable (I : Network) (B : Branch) (P : Packing) (root least : ℕ) : Type 0 where
  pub start : IsStart I B P
  pub rooted : IsRootFor I B P root
  pub light : base_weight I B P ≤ least

-- what is left with an extension for the root is what its cuts leave of the graph's branch, and it weighs no more than this
pub record IsRaised (I : Network) (g : Graph) (B : Branch) (root least : ℕ) (e : Extension) : Type 0 where
  pub rooted : e.left.arcs.root ≡ root
  pub charged : IsCharged g B (packing_of e.ascent) e.left.arcs e.left.twins
  pub ends : AreEndsOf e.left.arcs e.left.twins
  pub sets : All (λ c. IsVertexSet I.n c.set) (packing_of e.ascent).cuts
  pub light : base_weight I B (packing_of e.ascent) ≤ least

-- it is extended for the root until it weighs this, or is full
pub record IsExtendedTo (I : Network) (g : Graph) (B : Branch) (P : Packing) (root least : ℕ) (e : Extension) : Type 0 where
  pub extended : IsExtension I B P root (least - base_weight I B P) e.ascent
  pub raised : IsRaised I g B root least e

-- each packing that the first extends for the root until it weighs this, or is full, the other extends so too
pub record IsRefined (I : Network) (g : Graph) (B : Branch) (root least : ℕ) (first e : Extension) : Type 0 where
  pub extends : (P : Packing) → IsExtendable I B P root least → IsExtendedTo I g B P root least first → IsExtendedTo I g B P root least e
  pub raised : IsRaised I g B root least e

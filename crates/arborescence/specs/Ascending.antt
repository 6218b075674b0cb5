-- How a directed ascent ends.
use Rattle.std.specs.Prelude.{◌≡◌, ℕ, ◌+◌, ◌<◌, ◌≤◌, List, ◌++◌, All, Some}
use Rattle.st_model.specs.declared.branch.Branch.{Branch}
use Rattle.st_model.specs.Branch.{IsVertexSet}
use Rattle.st_model.specs.Lists.{total}
use Rattle.cut_packing.specs.declared.cut.Cut.{Cut}
use Rattle.cut_packing.specs.declared.packing.Packing.{Packing}
use Rattle.cut_packing.specs.Full.{IsFullIn, IsReachedIn}
use Rattle.cut_packing.specs.Loads.{AreLoadedIn}
use Rattle.cut_packing.specs.Packing.{FitsIn, weight_in}
use Rattle.arborescence.specs.DiNetwork.{DiNetwork, away_price, di_ground}
use Rattle.arborescence.specs.declared.ascent.DiAscent.{DiAscent}
use Rattle.arborescence.specs.declared.ascent.DiAscent.TheVariants.{Full, Reached}
use Rattle.arborescence.specs.declared.raising.Raising.{Raising}

-- a packing for the root that fits, and has the old cuts first; its new sets are ascending
pub record IsDiExtended (D : DiNetwork) (B : Branch) (P new : Packing) : Type 0 where
  pub rooted : new.root ≡ Some D.root
  pub fits : FitsIn (di_ground D) B new
  pub holds : (more : List Cut) × (new.cuts ≡ P.cuts ++ more) × All (λ c. IsVertexSet D.n c.set) more

-- it weighs at least the target; or less, and is full
abbrev pub IsDiAscent : DiNetwork → Branch → Packing → ℕ → DiAscent → Type 0
IsDiAscent D B P target (Full new) = IsDiExtended D B P new × (weight_in (di_ground D) B new < target) × IsFullIn (di_ground D) B new
IsDiAscent D B P target (Reached new) = IsDiExtended D B P new × (target ≤ weight_in (di_ground D) B new)

-- cuts, as a packing for the root
abbrev pub rooted_packing : DiNetwork → List Cut → Packing
rooted_packing D cuts = record { root = Some D.root; cuts = cuts }

-- the cuts so far, as a packing for the root
abbrev pub raised_packing : DiNetwork → Raising → Packing
raised_packing D s = rooted_packing D s.cuts.items

-- cuts that fit, with what they lay on the arcs and what the target leaves
pub record IsRaising (D : DiNetwork) (B : Branch) (s : Raising) : Type 0 where
  pub loaded : AreLoadedIn (di_ground D) B (away_price D) s.cuts.items s.arcs
  pub fits : FitsIn (di_ground D) B (raised_packing D s)
  pub count : s.set.count ≡ D.n + 1

-- cuts that came after the old ones: they weigh what of the room is gone, and leave reached what was
pub record HasRaised (D : DiNetwork) (B : Branch) (old new : Raising) : Type 0 where
  pub raising : IsRaising D B new
  pub holds : (more : List Cut) × (new.cuts.items ≡ old.cuts.items ++ more) × All (λ c. IsVertexSet D.n c.set) more
  pub room : total (λ c. c.y) new.cuts.items + new.room ≡ total (λ c. c.y) old.cuts.items + old.room
  pub reached : (v : ℕ) → IsReachedIn (di_ground D) B (raised_packing D old) D.root v → IsReachedIn (di_ground D) B (raised_packing D new) D.root v

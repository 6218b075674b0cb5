-- How dual ascent ends.
use Rattle.std.specs.Prelude.{◌≡◌, ℕ, ◌^◌, ◌≤◌, ◌<◌, List, length, Some}
use Rattle.bidirected_form.specs.Digraph.{Digraph}
use Rattle.prize_transform.specs.Twins.{Ends}
use Rattle.cut_packing.specs.declared.cut.Cut.{Cut}
use Rattle.cut_packing.specs.declared.packing.Packing.{Packing}
use Rattle.dual_ascent.specs.declared.ascent.Ascent.{Ascent}
use Rattle.dual_ascent.specs.declared.ascent.Ascent.TheVariants.{Full, Reached}
use Rattle.dual_ascent.specs.Left.{AreLowered, AreSpent, raised}
use Rattle.dual_ascent.specs.Raises.{AreRaises, IsRaisable, Reaches}

-- from the root each vertex is reached that has to be, or of whose prize something is left
abbrev pub ReachesAll : Digraph → Ends → List Cut → Type 0
ReachesAll D E cuts = (v : ℕ) → IsRaisable D E cuts v → Reaches D cuts v D.root

-- raises for the root, by which alone the arcs and prizes are lower than before
pub record IsAscended (D D' : Digraph) (E E' : Ends) (target : ℕ) (P : Packing) : Type 0 where
  pub root : P.root ≡ Some D.root
  pub cuts : AreRaises D E target P.cuts
  -- so that they can be counted in 64 bits
  pub few : length P.cuts < 2 ^ 64
  pub arcs : AreLowered D D' P.cuts
  pub ends : AreSpent E E' P.cuts

-- the cuts reach the target; or they don't, and none can be added
abbrev pub IsAscent : Digraph → Digraph → Ends → Ends → ℕ → Ascent → Type 0
IsAscent D D' E E' target (Full P) = IsAscended D D' E E' target P × (raised P.cuts < target) × ReachesAll D E P.cuts
IsAscent D D' E E' target (Reached P) = IsAscended D D' E E' target P × (target ≤ raised P.cuts)

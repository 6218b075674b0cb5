-- Directed cuts as dual ascent adds them, one by one (Wong 1984).
use Rattle.std.specs.Prelude.{◌≡◌, ◌≢◌, ℕ, ◌+◌, ◌≤◌, ◌<◌, ◌⊎◌, ◌↔◌, IsTrue, IsFalse, List, ◌∷◌, ◌++◌, Some}
use Rattle.st_model.specs.Lists.{has}
use Rattle.st_model.specs.Branch.{IsVertexSet}
use Rattle.bidirected_form.specs.declared.kind.VertexKind.TheVariants.{Must}
use Rattle.bidirected_form.specs.Digraph.{Digraph, kind_of, remaining}
use Rattle.bidirected_form.specs.Entering.{enters}
use Rattle.prize_transform.specs.Twins.{Ends, left_of}
use Rattle.cut_packing.specs.declared.cut.Cut.{Cut}
use Rattle.cut_packing.specs.Packing.{load, named}
use Rattle.dual_ascent.specs.Left.{raised}

-- the cuts take all that remains of the arc from u to v
abbrev pub IsSaturated : Digraph → List Cut → ℕ → ℕ → Type 0
IsSaturated D cuts u v = remaining D u v ≡ Some (load cuts (u, v))

-- what reaches q over arcs with nothing left
pub data Reaches (D : Digraph) (cuts : List Cut) (q : ℕ) : ℕ → Type 0 where
  here : Reaches D cuts q q
  there : {u v : ℕ} → IsSaturated D cuts u v → Reaches D cuts q v → Reaches D cuts q u

-- q has to be reached, or the cuts leave something of its prize
abbrev pub IsRaisable : Digraph → Ends → List Cut → ℕ → Type 0
IsRaisable D E cuts q = (kind_of D q ≡ Must) ⊎ (named cuts q < left_of E q)

-- some arc that enters the cut's set has nothing left
pub record UsesUpAnArc (D : Digraph) (before : List Cut) (c : Cut) : Type 0 where
  pub tail : ℕ
  pub head : ℕ
  pub entering : IsTrue (enters c.set tail head)
  pub used : remaining D tail head ≡ Some (load before (tail, head) + c.y)

-- the target is reached
abbrev pub ReachesTarget : ℕ → List Cut → Cut → Type 0
ReachesTarget target before c = raised before + c.y ≡ target

-- q may be left out, and nothing of its prize is left
abbrev pub SpendsThePrize : Digraph → Ends → List Cut → Cut → Type 0
SpendsThePrize D E before c = (kind_of D c.q ≢ Must) × (named before c.q + c.y ≡ left_of E c.q)

-- the cut's value is the least of what is left of the arcs that enter its set, of the target, and of the prize of a q
-- that may be left out
pub record IsLeast (D : Digraph) (E : Ends) (target : ℕ) (before : List Cut) (c : Cut) : Type 0 where
  pub arcs : (u v r : ℕ) → IsTrue (enters c.set u v) → remaining D u v ≡ Some r → load before (u, v) + c.y ≤ r
  pub room : raised before + c.y ≤ target
  pub prize : kind_of D c.q ≢ Must → named before c.q + c.y ≤ left_of E c.q
  pub attained : UsesUpAnArc D before c ⊎ ReachesTarget target before c ⊎ SpendsThePrize D E before c

-- one more cut after those before: round all that reaches a vertex q which the root doesn't reach
pub record IsRaise (D : Digraph) (E : Ends) (target : ℕ) (before : List Cut) (c : Cut) : Type 0 where
  pub raisable : IsRaisable D E before c.q
  pub set : IsVertexSet D.n c.set
  pub exact : (v : ℕ) → IsTrue (has c.set v) ↔ Reaches D before c.q v
  pub apart : IsFalse (has c.set D.root)
  pub positive : 0 < c.y
  pub least : IsLeast D E target before c

-- each cut is a raise after those before it
abbrev pub AreRaises : Digraph → Ends → ℕ → List Cut → Type 0
AreRaises D E target cuts = (before : List Cut) (c : Cut) (after : List Cut) → cuts ≡ before ++ c ∷ after → IsRaise D E target before c

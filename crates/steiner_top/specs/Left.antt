-- What steps leave of an instance. Helpers' clauses cite this, and no public one.
use Rattle.std.specs.Prelude.{◌≡◌, ℕ, ◌<◌, ◌^◌, Bool, List, [], length, None, IsTrue, IsFalse, ⊤}
use Rattle.amounts.specs.declared.scale.Scale.{Scale}
use Rattle.st_model.specs.declared.tree.Tree.{Tree}
use Rattle.st_model.specs.Network.{Network, is_required, link}
use Rattle.st_model.specs.declared.branch.Branch.{Branch}
use Rattle.st_model.specs.Arborescence.{cost}
use Rattle.st_model.specs.Lists.{has}
use Rattle.st_model.specs.Terminals.{NobodyPays}
use Rattle.twice_tree.specs.Twice.{IsWithinTwice}
use Rattle.lift_back.specs.declared.step.Step.{Step}
use Rattle.lift_back.specs.declared.step.Step.TheVariants.{Pendant, Through, Forced, Detour}
use Rattle.lift_back.specs.State.{State, IsTreeOf, whole}
use Rattle.lift_back.specs.Steps.{Applies}
use Rattle.log_format.specs.declared.log.Log.{Log}
use Rattle.log_format.specs.declared.log.Claim.{Claim}
use Rattle.log_format.specs.declared.log.Claim.TheVariants.{Found, NoTree}
use Rattle.log_format.specs.Text.{IsWritablePacking}
use Rattle.search_core.specs.declared.gathered.Searched.{Searched}
use Rattle.search_core.specs.Complete.{AllPackings}
use Rattle.steiner_top.specs.declared.best.Best.{Best}
use Rattle.steiner_top.specs.declared.left.Left.{Left}
use Rattle.steiner_top.specs.declared.outcome.Outcome.{Outcome}
use Rattle.steiner_top.specs.declared.outcome.Outcome.TheVariants as outcome
use Rattle.steiner_top.specs.Outcome.{AreSteps, IsSearchOf}

-- the steps apply to the instance and leave this
pub record IsLeftOf (I : Network) (plain : Bool) (l : Left) : Type 0 where
  pub first : l.reduced.first ≡ I
  pub applies : Applies l.steps.items (whole I) l.reduced.state
  pub steps : AreSteps plain l.steps.items l.reduced.state

-- some tree is left
abbrev pub HasSomeTree : State → Type 0
HasSomeTree s = (t : Tree) × IsTreeOf s t

-- a branch of all trees but those that reach some who have no links and aren't required
pub record LeavesOutLone (I : Network) (B : Branch) : Type 0 where
  pub inside : B.inside ≡ []
  pub free : (v : ℕ) → IsTrue (has B.outside v) → IsFalse (is_required I v)
  pub alone : (v w : ℕ) → IsTrue (has B.outside v) → link I.links v w ≡ None

-- a search of what is left and the best tree that it found, all of which can be written in a log
pub record IsBestOf (s : State) (budget : ℕ) (links : Bool) (b : Best) : Type 0 where
  pub is_left : IsTreeOf s b.tree
  pub is_least : b.search.gathered.least ≡ cost s.instance b.tree
  pub near : NobodyPays s.instance → IsWithinTwice s.instance b.tree
  pub searched : IsSearchOf s budget links b.search
  pub writable : AllPackings IsWritablePacking b.search.gathered

-- this tree and these numbers are claimed
abbrev pub IsClaimOf : Claim → Tree → ℕ → ℕ → Type 0
IsClaimOf (Found p d t steps proof) tree primal dual = (t ≡ tree) × (p ≡ primal) × (d ≡ dual)
IsClaimOf (NoTree wall) tree primal dual = ⊥

-- an outcome is a log's tree and numbers, found by these searches, which worked on so many nodes, and the numbers count units of
-- this scale
abbrev pub IsShownBy : ℕ → List Searched → Log → Scale → Outcome → Type 0
IsShownBy worked done log unit (outcome.Found tree primal dual expanded searches certificate scale) =
    IsClaimOf log.claim tree primal dual × (expanded ≡ worked) × (searches ≡ done) × (certificate ≡ log) × (scale ≡ unit)
IsShownBy worked done log unit (outcome.Directed tree primal dual expanded certificate scale) = ⊥
IsShownBy worked done log unit (outcome.NoTree certificate) = ⊥

-- a detour's inner vertices can be counted
abbrev pub CanBeCounted : Step → Type 0
CanBeCounted (Pendant v) = ⊤
CanBeCounted (Through v) = ⊤
CanBeCounted (Forced v) = ⊤
CanBeCounted (Detour a b inner) = length inner < 2 ^ 64

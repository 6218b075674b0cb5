-- A graft in the making: what the lines of the old proof make of it, one after the other. Helpers' clauses cite this, and
-- no public one.
use Rattle.std.specs.Prelude.{◌≡◌, ◌≢◌, ℕ, ◌+◌, min, List, [], ◌∷◌, ◌++◌, Option, Some, None}
use Rattle.std.specs.Option.{option_and_then, option_to_list}
use Rattle.st_model.specs.declared.branch.Branch.{Branch}
use Rattle.st_model.specs.declared.split_at.SplitAt.{SplitAt}
use Rattle.st_model.specs.Network.{Network}
use Rattle.cut_packing.specs.declared.packing.Packing.{Packing}
use Rattle.cut_packing.specs.Packing.{weight}
use Rattle.cut_packing.specs.ProofTree.{ProofTree, IsSplitAt}
use Rattle.log_format.specs.declared.proof_line.ProofLine.{ProofLine}
use Rattle.log_format.specs.declared.proof_line.ProofLine.TheVariants.{Split, Close}
use Rattle.log_format.specs.Preorder.{preorder}
use Rattle.search_core.specs.declared.gathered.Searched.{Searched}
use Rattle.search_core.specs.Complete.{IsComplete}
use Rattle.search_core.specs.ReadOff.{IsReadOff, ProvesItsLeast, least_weight}
use Rattle.cert_checker.specs.declared.turn.Turn.{Turn}
use Rattle.cert_checker.specs.Path.{branch_of, next_path, path_after, yes_path}
use Rattle.log_resume.specs.declared.growing.Growing.{Growing}
use Rattle.log_resume.specs.Grafted.{IsGrafted, StandsFor}

-- ---- walks

-- the path to the first branch that is open after a line, if one is
abbrev pub passed : Option (List Turn) → ProofLine → Option (List Turn)
passed path line = option_and_then (λ p. path_after p line) path

-- what a packing weighs in the first branch that is open
abbrev pub weight_at : Network → Option (List Turn) → Packing → ℕ
weight_at I None P = 0
weight_at I (Some path) P = weight I (branch_of path) P

-- the less of top and of what a line's close weighs
abbrev pub least_after : Network → Option (List Turn) → ℕ → ProofLine → ℕ
least_after I path top (Split at) = top
least_after I path top (Close P) = min top (weight_at I path P)

-- where a walk over some lines ends, and the least of top and of what their closes weigh
abbrev pub walked : Network → Option (List Turn) → ℕ → List ProofLine → Option (List Turn) × ℕ
walked I path top [] = (path, top)
walked I path top (line ∷ lines) = walked I (passed path line) (least_after I path top line) lines

-- a branch is open, and if the line splits it, it can be split there
abbrev pub MayPass : Network → Option (List Turn) → ProofLine → Type 0
MayPass I None line = ⊥
MayPass I (Some path) (Split at) = IsSplitAt I (branch_of path) at
MayPass I (Some path) (Close P) = Unit {0}

-- the same of each of some lines
abbrev pub MayWalk : Network → Option (List Turn) → List ProofLine → Type 0
MayWalk I path [] = Unit {0}
MayWalk I path (line ∷ lines) = MayPass I path line × MayWalk I (passed path line) lines

-- ---- the graft, line by line

-- the instance and the path to the first branch that is open, the searches of the closes that are still to come, the number
-- of the next close, the lines so far, and the less of a bound and of what their closes weigh
pub record Growth : Type 0 where
  pub instance : Network
  pub path : Option (List Turn)
  pub searches : List Searched
  pub number : ℕ
  pub lines : List ProofLine
  pub least : ℕ

-- what is seen of it
abbrev pub growth : Growing → Growth
growth g = record { instance = g.walk.instance; path = g.walk.path; searches = g.searches.now; number = g.number; lines = g.written.lines; least = g.written.least }

-- a branch is open, and if the first search is of its close, it is complete
pub record IsReady (g : Growth) (branch_path : List Turn) : Type 0 where
  pub path : g.path ≡ Some branch_path
  pub search : (E : Searched) (later : List Searched) → g.searches ≡ E ∷ later → E.close ≡ g.number → IsComplete E.gathered g.instance (branch_of branch_path) E.start E.budget

-- the same before a close; a split may be passed
abbrev pub IsReadyFor : Growth → ProofLine → Type 0
IsReadyFor g (Split at) = MayPass g.instance g.path (Split at)
IsReadyFor g (Close P) = (path : List Turn) × IsReady g path

-- the first of some searches, if it is of the close of this number, and those that are left
pub data IsDue (number : ℕ) : List Searched → Option Searched → List Searched → Type 0 where
  nothing : IsDue number [] None []
  later : {E : Searched} {searches : List Searched} → E.close ≢ number → IsDue number (E ∷ searches) None (E ∷ searches)
  due : {E : Searched} {searches : List Searched} → E.close ≡ number → IsDue number (E ∷ searches) (Some E) searches

-- a split is written as it stands
pub record WritesSplit (g : Growth) (at : SplitAt) (h : Growth) : Type 0 where
  pub path : List Turn
  pub was : g.path ≡ Some path
  pub is : h ≡ record g { path = Some (yes_path path at); lines = g.lines ++ Split at ∷ [] }

-- what stands for a close is written in its place
pub record WritesClose (g : Growth) (P : Packing) (h : Growth) : Type 0 where
  pub path : List Turn
  pub found : Option Searched
  pub left : List Searched
  pub tree : ProofTree
  pub was : g.path ≡ Some path
  pub is_due : IsDue g.number g.searches found left
  pub stands : StandsFor g.instance (option_to_list found) g.number (branch_of path) P tree
  pub is : h ≡ record { instance = g.instance; path = next_path path; searches = left; number = g.number + 1; lines = g.lines ++ preorder tree; least = min g.least (least_weight g.instance (branch_of path) tree) }

-- what a line of the old proof makes of a graft
abbrev pub Goes : Growth → ProofLine → Growth → Type 0
Goes g (Split at) h = WritesSplit g at h
Goes g (Close P) h = WritesClose g P h

-- the lines are those of the one proof tree that is read off a search of the first branch that is open
pub record IsFound (I : Network) (path : Option (List Turn)) (E : Searched) (proof : List ProofLine) : Type 0 where
  pub branch_path : List Turn
  pub tree : ProofTree
  pub was : path ≡ Some branch_path
  pub proves : ProvesItsLeast E.gathered I (branch_of branch_path) tree
  pub lines : (p : ProofTree) → IsReadOff E.gathered 0 p → proof ≡ preorder p

-- ---- the whole

-- the lines are those of the graft of a proof tree, and least is the less of top and of its least close
pub record IsGrown (I : Network) (searches : List Searched) (B : Branch) (p : ProofTree) (top : ℕ) (proof : List ProofLine) (least : ℕ) : Type 0 where
  pub after : ProofTree
  pub grafted : IsGrafted I searches 0 B p after
  pub lines : proof ≡ preorder after
  pub is_least : least ≡ min top (least_weight I B after)

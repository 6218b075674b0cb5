-- A proof tree with other proofs in the places of some of its closes, and the log of it.
use Rattle.std.specs.Prelude.{◌≡◌, ℕ, ◌+◌, ◌<◌, ◌≤◌, min, List, [], ◌∷◌, Contains}
use Rattle.st_model.specs.declared.branch.Branch.{Branch}
use Rattle.st_model.specs.declared.split_at.SplitAt.{SplitAt}
use Rattle.st_model.specs.declared.tree.Tree.{Tree}
use Rattle.st_model.specs.Network.{Network}
use Rattle.st_model.specs.Branch.{yes_half, no_half}
use Rattle.cut_packing.specs.declared.packing.Packing.{Packing}
use Rattle.cut_packing.specs.Packing.{weight}
use Rattle.cut_packing.specs.ProofTree.{ProofTree, close, split}
use Rattle.branching.specs.declared.node.Node.{Node}
use Rattle.lift_back.specs.declared.step.Step.{Step}
use Rattle.lift_back.specs.State.{State}
use Rattle.log_format.specs.declared.log.Log.{Log}
use Rattle.log_format.specs.declared.log.Claim.TheVariants.{Found}
use Rattle.log_format.specs.declared.proof_line.ProofLine.{ProofLine}
use Rattle.log_format.specs.Accepts.{Accepts, ProvesFrom, left_over}
use Rattle.log_format.specs.Preorder.{preorder}
use Rattle.log_format.specs.Text.{IsLog, IsWritablePacking}
use Rattle.search_core.specs.declared.gathered.Searched.{Searched}
use Rattle.search_core.specs.Complete.{AllPackings, IsComplete}
use Rattle.search_core.specs.ReadOff.{IsReadOff, ProvesItsLeast, least_weight}
use Rattle.log_resume.specs.Closes.{close_count, closes_of}

-- each search is of one of the closes, in their order: complete for its branch, and each of its packings can be written
pub data AreSearchesOf (I : Network) : List Node → List Searched → Type 0 where
  none : {closes : List Node} → AreSearchesOf I closes []
  passed : {N : Node} {closes : List Node} {searches : List Searched} → AreSearchesOf I closes searches → AreSearchesOf I (N ∷ closes) searches
  searched : {N : Node} {E : Searched} {closes : List Node} {searches : List Searched} → E.close ≡ N.id → IsComplete E.gathered I N.branch E.start E.budget
      → AllPackings IsWritablePacking E.gathered → AreSearchesOf I closes searches → AreSearchesOf I (N ∷ closes) (E ∷ searches)

-- what stands in the place of a close of this number: the proof tree that is read off a search of it no close of which weighs
-- less than the close, and else the close itself
pub data StandsFor (I : Network) (searches : List Searched) (number : ℕ) (B : Branch) (P : Packing) : ProofTree → Type 0 where
  grown : {E : Searched} {q : ProofTree} → Contains searches E → E.close ≡ number → ProvesItsLeast E.gathered I B q → weight I B P ≤ least_weight I B q
      → StandsFor I searches number B P q
  stays : ((E : Searched) (q : ProofTree) → Contains searches E → E.close ≡ number → IsReadOff E.gathered 0 q → least_weight I B q < weight I B P)
      → StandsFor I searches number B P (close P)

-- the second proof tree of a branch is the first with what stands in the places of its closes, which are numbered from this
-- number on
pub data IsGrafted (I : Network) (searches : List Searched) : ℕ → Branch → ProofTree → ProofTree → Type 0 where
  at_close : {number : ℕ} {B : Branch} {P : Packing} {q : ProofTree} → StandsFor I searches number B P q → IsGrafted I searches number B (close P) q
  at_split : {number : ℕ} {B : Branch} {at : SplitAt} {p q p' q' : ProofTree} → IsGrafted I searches number (yes_half B at) p p'
      → IsGrafted I searches (number + close_count p) (no_half B at) q q' → IsGrafted I searches number B (split at p q) (split at p' q')

-- a log claims a tree, and proves something of what its steps left
pub record IsProofOf (left : State) (log : Log) (steps : List Step) (p : ProofTree) : Type 0 where
  pub primal : ℕ
  pub dual : ℕ
  pub tree : Tree
  pub proof : List ProofLine
  pub claims : log.claim ≡ Found primal dual tree steps proof
  pub lines : proof ≡ preorder p
  pub proves : ProvesFrom left dual proof

-- the searches are of closes of the proof of a log
abbrev pub AreSearchesIn : State → Log → List Searched → Type 0
AreSearchesIn left log searches = (steps : List Step) (p : ProofTree) → IsProofOf left log steps p → AreSearchesOf left.instance (closes_of (left_over left) p) searches

-- the new log claims this tree and its cost, by the proof of the old one with those of the searches in it; its bound is the
-- greatest up to that cost that its closes show
pub record IsGraftOf (first : Network) (left : State) (old : Log) (tree : Tree) (primal : ℕ) (searches : List Searched) (log : Log) : Type 0 where
  pub steps : List Step
  pub proof : List ProofLine
  pub before : ProofTree
  pub after : ProofTree
  pub old_proof : IsProofOf left old steps before
  pub grafted : IsGrafted left.instance searches 0 (left_over left) before after
  pub version : log.version ≡ old.version
  pub dual : ℕ
  pub claims : log.claim ≡ Found primal dual tree steps proof
  pub lines : proof ≡ preorder after
  pub is_dual : dual ≡ min primal (left.offset + least_weight left.instance (left_over left) after)
  pub is_log : IsLog log
  pub accepted : Accepts first log

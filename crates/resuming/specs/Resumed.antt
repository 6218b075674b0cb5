-- What a run that goes on from a log gives.
use Rattle.std.specs.Prelude.{◌≡◌, ℕ, ◌+◌, ◌-◌, ◌<◌, ◌≤◌, min, List}
use Rattle.std.specs.List.{sum_by}
use Rattle.st_model.specs.declared.tree.Tree.{Tree}
use Rattle.st_model.specs.Network.{Network}
use Rattle.st_model.specs.Arborescence.{IsTree, IsBound, cost}
use Rattle.cut_packing.specs.ProofTree.{ProofTree}
use Rattle.lift_back.specs.declared.step.Step.{Step}
use Rattle.lift_back.specs.State.{State, IsTreeOf, whole}
use Rattle.lift_back.specs.Steps.{Applies}
use Rattle.log_format.specs.declared.log.Log.{Log}
use Rattle.log_format.specs.declared.log.Claim.{Claim}
use Rattle.log_format.specs.declared.log.Claim.TheVariants.{Found, NoTree}
use Rattle.log_format.specs.Accepts.{left_over}
use Rattle.search_core.specs.declared.gathered.Searched.{Searched}
use Rattle.log_resume.specs.Closes.{closes_of}
use Rattle.log_resume.specs.Grafted.{IsGraftOf, IsProofOf}
use Rattle.resuming.specs.GoingOn.{GoOn}

-- a tree is claimed
abbrev pub ClaimsTree : Claim → Type 0
ClaimsTree (Found primal dual tree steps proof) = Unit {0}
ClaimsTree (NoTree wall) = ⊥

-- what a claim says that its tree costs, and its bound; 0 where it says that there is none
abbrev pub claimed_primal : Claim → ℕ
claimed_primal (Found primal dual tree steps proof) = primal
claimed_primal (NoTree wall) = 0

abbrev pub claimed_dual : Claim → ℕ
claimed_dual (Found primal dual tree steps proof) = dual
claimed_dual (NoTree wall) = 0

-- the same of a log
abbrev pub primal_of : Log → ℕ
primal_of log = claimed_primal log.claim

abbrev pub dual_of : Log → ℕ
dual_of log = claimed_dual log.claim

-- how many nodes searches worked on
abbrev pub expanded_by : List Searched → ℕ
expanded_by searches = sum_by (λ s. s.gathered.claimed) searches

-- the value with which the first search begins: the less of what the log's tree costs in what is left and of what a tree of
-- what is left costs
abbrev pub IsFirstStart : State → Log → ℕ → Type 0
IsFirstStart left old start = (t : Tree) × IsTreeOf left t × (start ≡ min (primal_of old - left.offset) (cost left.instance t))

-- a run went on from a log within a budget: by these searches, and this is the log with their proofs
pub record IsResumed (budget : ℕ) (I : Network) (old : Log) (searches : List Searched) (log : Log) : Type 0 where
  pub steps : List Step
  pub left : State
  pub proof : ProofTree
  -- the old log's steps lead to what is left, of which its proof is one
  pub applies : Applies steps (whole I) left
  pub of_old : IsProofOf left old steps proof
  -- each search is of the next close that is light at its turn
  pub start : ℕ
  pub last : ℕ
  pub is_start : IsFirstStart left old start
  pub searched : GoOn left.instance (closes_of (left_over left) proof) start budget searches last
  -- the new log is the old one with their proofs, and it claims what the cheapest tree known costs
  pub tree : Tree
  pub is_tree : IsTree I tree
  pub is_cost : last + left.offset ≡ cost I tree
  pub grafted : IsGraftOf I left old tree (last + left.offset) searches log
  -- so it claims no dearer tree, and a bound that is no less and no more than what its tree costs
  pub no_dearer : primal_of log ≤ primal_of old
  pub no_lower : dual_of old ≤ dual_of log
  pub is_below : dual_of log ≤ primal_of log
  pub is_bound : IsBound I (dual_of log)
  -- where they are apart the whole budget was spent
  pub all_spent : dual_of log < primal_of log → expanded_by searches ≡ budget

-- What solving a file of either kind gives: a tree and a bound with their certificate, or a certificate that there is no tree.
use Rattle.std.specs.Prelude.{◌≡◌, ℕ, ◌+◌, ◌^◌, ◌<◌, ◌≤◌, Bool, true, false, IsFalse, if◌then◌else◌, List, [], ◌∷◌, All, Result, Ok, Err}
use Rattle.amounts.specs.declared.scale.Scale.{Scale}
use Rattle.st_model.specs.declared.tree.Tree.{Tree}
use Rattle.st_model.specs.Linked.{linked_pairs}
use Rattle.st_model.specs.Lists.{sum_to}
use Rattle.st_model.specs.Network.{Network, is_required}
use Rattle.st_model.specs.Arborescence.{IsTree, IsTreeIn, IsBound, cost}
use Rattle.st_model.specs.Terminals.{NobodyPays}
use Rattle.arborescence.specs.DiNetwork.{DiNetwork}
use Rattle.arborescence.specs.Problem as problem
use Rattle.twice_tree.specs.Twice.{IsWithinTwice}
use Rattle.stp_reader.specs.declared.fault.ReadError.{ReadError}
use Rattle.stp_reader.specs.declared.fault.ReadError.TheVariants.{Fault, NoMemory as NoMemoryToRead}
use Rattle.stp_reader.specs.Reads.{ReadsFile, RefusedFile}
use Rattle.lift_back.specs.declared.step.Step.{Step}
use Rattle.lift_back.specs.State.{State, IsTreeOf, whole}
use Rattle.lift_back.specs.Steps.{Applies}
use Rattle.log_format.specs.declared.log.Log.{Log}
use Rattle.log_format.specs.declared.log.Version.TheVariants.{Two}
use Rattle.log_format.specs.declared.log.Claim.TheVariants as claim
use Rattle.log_format.specs.declared.proof_line.ProofLine.{ProofLine}
use Rattle.log_format.specs.Accepts.{Accepts, AcceptsIn, ProvesAfter, left_of, left_over}
use Rattle.log_format.specs.Text.{IsLog}
use Rattle.search_core.specs.declared.gathered.Searched.{Searched}
use Rattle.reductions.specs.Results.{HasNoVertexStep}
use Rattle.search_core.specs.Complete.{IsAtVertex, IsComplete, IsFinished, records}
use Rattle.directed_search.specs.Found.{IsDiFound}
use Rattle.certificate_log.specs.Assembled.{IsAssembled}
use Rattle.certificate_log.specs.Spent.{IsSpent}
use Rattle.steiner_top.specs.declared.outcome.Outcome.{Outcome}
use Rattle.steiner_top.specs.declared.outcome.Outcome.TheVariants.{Found, Directed, NoTree}
use Rattle.steiner_top.specs.declared.outcome.SolveFault.{SolveFault}
use Rattle.steiner_top.specs.declared.outcome.SolveFault.TheVariants.{Stp, NoMemory}

-- how many vertices aren't required
abbrev pub free_vertices : Network → ℕ
free_vertices I = sum_to (λ v. if is_required I v then 0 else 1) I.n

-- of the numbers up to primal that the lines prove after the steps, dual is the greatest
abbrev pub IsGreatestBound : Network → List Step → ℕ → ℕ → List ProofLine → Type 0
IsGreatestBound I steps primal dual lines = (x : ℕ) → x ≤ primal → ProvesAfter I steps x lines → x ≤ dual

-- which steps are taken, where they leave this: none, where it is to be plain, and else so many that no vertex may go by one more
abbrev pub AreSteps : Bool → List Step → State → Type 0
AreSteps true steps left = steps ≡ []
AreSteps false steps left = HasNoVertexStep left

-- a search of what is left, which began with the cost of a tree of it, within a budget; it may split nodes at links, or it may not
pub record IsSearchOf (left : State) (budget : ℕ) (links : Bool) (s : Searched) : Type 0 where
  -- it goes on from no earlier search
  pub first : s.close ≡ 0
  pub budget_is : s.budget ≡ budget
  pub start : (t : Tree) × IsTreeOf left t × (s.start ≡ cost left.instance t)
  -- each node that was made was closed, split or left, and rightly so
  pub complete : IsComplete s.gathered left.instance (left_over left) s.start budget
  -- and none was left unless the budget was spent
  pub finished : IsFinished s.gathered left.instance (left_over left) s.start budget
  -- without links each split is at a vertex
  pub sites : IsFalse links → All IsAtVertex (records s.gathered)

-- the log claims this tree and this bound, and its proof is that of one search of what its steps leave; it shows no greater bound, and spent the budget if they are apart
pub record IsCertificate (nodes : ℕ) (plain links : Bool) (I : Network) (tree : Tree) (primal dual expanded : ℕ) (searches : List Searched) (log : Log) : Type 0 where
  pub steps : List Step
  pub proof : List ProofLine
  pub claims : log.claim ≡ claim.Found primal dual tree steps proof
  -- what the steps leave
  pub left : State
  pub applies : Applies steps (whole I) left
  pub reduced : AreSteps plain steps left
  -- the one search of it
  pub search : Searched
  pub searched : IsSearchOf left nodes links search
  pub only : searches ≡ search ∷ []
  -- how many units of the budget it took
  pub expanded_is : expanded ≡ search.gathered.claimed
  -- the log is made of what it gathered
  pub assembled : IsAssembled steps I left search.gathered log
  pub greatest : IsGreatestBound I steps primal dual proof
  -- a close is light where it weighs less than primal together with what is paid besides
  pub spent : dual < primal → IsSpent nodes left.instance (left_over left) (left_of primal left) proof
  pub all_spent : dual < primal → expanded ≡ nodes
  pub is_log : IsLog log
  pub accepted : Accepts I log

-- a tree of this cost, a bound on the cost of every tree, and their certificate
pub record IsFound (nodes : ℕ) (plain links : Bool) (I : Network) (tree : Tree) (primal dual expanded : ℕ) (searches : List Searched) (log : Log) : Type 0 where
  pub is_tree : IsTree I tree
  pub is_cost : primal ≡ cost I tree
  pub is_bound : IsBound I dual
  pub is_below : dual ≤ primal
  -- where nobody pays it costs at most twice what each tree costs, less a share, whatever the budget
  pub near : NobodyPays I → IsWithinTwice I tree
  pub certified : IsCertificate nodes plain links I tree primal dual expanded searches log
  -- a budget that is sure to suffice, where each split is at a vertex
  pub enough : IsFalse links → 2 ^ (free_vertices I + 1) ≤ nodes → dual ≡ primal
  -- and one that is, wherever nodes are split
  pub enough_with_links : 2 ^ (free_vertices I + linked_pairs I + 1) ≤ nodes → dual ≡ primal

-- the problem has no tree, and the log says why
pub record IsWithoutTree (p : problem.Problem) (log : Log) : Type 0 where
  pub wall : List ℕ
  pub none : (t : Tree) → IsTreeIn (problem.ground_of p) t → ⊥
  pub version : log.version ≡ Two
  pub claims : log.claim ≡ claim.NoTree wall
  pub is_log : IsLog log
  pub accepted : AcceptsIn p log

-- what is right of an instance whose costs count units of this scale, where so many nodes may be expanded, it is to be plain or not, and nodes may be split at links or not
abbrev pub IsOutcome : ℕ → Bool → Bool → Network → Scale → Outcome → Type 0
IsOutcome nodes plain links I unit (Found tree primal dual expanded searches log scale) = IsFound nodes plain links I tree primal dual expanded searches log × (scale ≡ unit)
IsOutcome nodes plain links I unit (Directed tree primal dual expanded log scale) = ⊥
IsOutcome nodes plain links I unit (NoTree log) = IsWithoutTree (problem.plain I) log

-- the same of a directed instance, of which no step is taken and no node is split at a link
abbrev pub IsDirectedOutcome : ℕ → DiNetwork → Scale → Outcome → Type 0
IsDirectedOutcome nodes D unit (Found tree primal dual expanded searches log scale) = ⊥
IsDirectedOutcome nodes D unit (Directed tree primal dual expanded log scale) = IsDiFound nodes D tree primal dual expanded log × (scale ≡ unit)
IsDirectedOutcome nodes D unit (NoTree log) = IsWithoutTree (problem.directed D) log

-- the same of a problem
abbrev pub IsOutcomeOf : ℕ → Bool → Bool → problem.Problem → Scale → Outcome → Type 0
IsOutcomeOf nodes plain links (problem.plain I) unit outcome = IsOutcome nodes plain links I unit outcome
IsOutcomeOf nodes plain links (problem.directed D) unit outcome = IsDirectedOutcome nodes D unit outcome

-- the certificate of an outcome
abbrev pub certificate_of : Outcome → Log
certificate_of (Found tree primal dual expanded searches log scale) = log
certificate_of (Directed tree primal dual expanded log scale) = log
certificate_of (NoTree log) = log

-- what the bytes of a file give: an outcome of their problem, or the line at which they are refused
abbrev pub Solves : ℕ → Bool → Bool → List ℕ → Result Outcome SolveFault → Type 0
Solves nodes plain links bytes (Ok outcome) = (p : problem.Problem) × (scale : Scale) × ReadsFile bytes p scale × IsOutcomeOf nodes plain links p scale outcome
Solves nodes plain links bytes (Err (Stp f)) = RefusedFile bytes f.line f.reason
Solves nodes plain links bytes (Err NoMemory) = Unit {0}

-- the fault of a file that isn't read
abbrev pub fault_of_file : ReadError → SolveFault
fault_of_file (Fault f) = Stp f
fault_of_file NoMemoryToRead = NoMemory

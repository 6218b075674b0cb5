-- The log of what was gathered of a search over what steps left of an instance.
use Rattle.std.specs.Prelude.{◌≡◌, ℕ, ◌+◌, ◌^◌, ◌<◌, ◌≤◌, min, List, [], All}
use Rattle.st_model.specs.declared.tree.Tree.{Tree}
use Rattle.st_model.specs.Network.{Network}
use Rattle.st_model.specs.Arborescence.{IsTree, cost}
use Rattle.st_model.specs.Linked.{open_pairs}
use Rattle.cut_packing.specs.ProofTree.{ProofTree}
use Rattle.lift_back.specs.declared.step.Step.{Step}
use Rattle.lift_back.specs.State.{State}
use Rattle.log_format.specs.declared.log.Log.{Log}
use Rattle.log_format.specs.declared.log.Version.TheVariants.{Two}
use Rattle.log_format.specs.declared.log.Claim.TheVariants.{Found}
use Rattle.log_format.specs.declared.proof_line.ProofLine.{ProofLine}
use Rattle.log_format.specs.Accepts.{Accepts, left_over}
use Rattle.log_format.specs.Preorder.{preorder}
use Rattle.log_format.specs.Text.{IsLog}
use Rattle.search_core.specs.declared.gathered.Gathered.{Gathered}
use Rattle.search_core.specs.Complete.{IsAtVertex, IsComplete, IsFinished, records, waiting}
use Rattle.search_core.specs.ReadOff.{IsReadOff, least_weight}
use Rattle.search_core.specs.FreeVertices.{free_count}
use Rattle.certificate_log.specs.Spent.{IsGreatestOf, IsSpent}

-- the steps lead from the first instance to what is left, over which the search was from which this was gathered
pub record IsAssembled (steps : List Step) (first : Network) (left : State) (G : Gathered) (log : Log) : Type 0 where
  pub primal : ℕ
  pub dual : ℕ
  pub tree : Tree
  pub proof : List ProofLine
  -- the log is of version 2, and claims a tree of the first instance and what it costs
  pub version : log.version ≡ Two
  pub claims : log.claim ≡ Found primal dual tree steps proof
  pub is_tree : IsTree first tree
  pub is_cost : primal ≡ cost first tree
  -- that is the least value, and what is paid besides what is left
  pub is_primal : primal ≡ G.least + left.offset
  -- its proof has the lines of the tree that is read off: nodes that wait are closed by their packings
  pub read : ProofTree
  pub is_read : IsReadOff G 0 read
  pub lines : proof ≡ preorder read
  -- the bound is the least weight of the closes and what is paid besides, but no more than the tree costs
  pub is_dual : dual ≡ min primal (left.offset + least_weight left.instance (left_over left) read)
  pub is_below : dual ≤ primal
  pub is_log : IsLog log
  pub accepted : Accepts first log
  -- of what is left no greater bound up to the least value is proved
  pub greatest : IsGreatestOf left.instance (left_over left) G.least (min G.least (least_weight left.instance (left_over left) read)) proof
  -- where no node waits, the bound is what the tree costs
  pub whole : waiting G ≡ [] → dual ≡ primal
  -- where the bound is less, the proof spent the budget
  pub spent : (start budget : ℕ) → IsComplete G left.instance (left_over left) start budget → IsFinished G left.instance (left_over left) start budget
      → dual < primal → IsSpent budget left.instance (left_over left) G.least proof
  -- a budget that is sure to suffice where no node was split at a link
  pub enough : (start budget : ℕ) → IsComplete G left.instance (left_over left) start budget → IsFinished G left.instance (left_over left) start budget
      → All IsAtVertex (records G) → 2 ^ (free_count left.instance (left_over left) + 1) ≤ budget → dual ≡ primal
  -- and one that is sure to suffice wherever nodes were split
  pub enough_with_links : (start budget : ℕ) → IsComplete G left.instance (left_over left) start budget → IsFinished G left.instance (left_over left) start budget
      → 2 ^ (free_count left.instance (left_over left) + open_pairs left.instance (left_over left) + 1) ≤ budget → dual ≡ primal

-- What a search of a directed instance gives: a tree and a bound with their certificate, or a certificate that there is no tree.
use Rattle.std.specs.Prelude.{◌≡◌, ℕ, ◌+◌, ◌^◌, ◌<◌, ◌≤◌, nat_lt, if◌then◌else◌, List, [], ◌∷◌, length}
use Rattle.st_model.specs.declared.tree.Tree.{Tree}
use Rattle.st_model.specs.Lists.{sum_to, total}
use Rattle.st_model.specs.Arborescence.{IsTreeIn, IsBoundIn, cost_in}
use Rattle.arborescence.specs.DiNetwork.{DiNetwork, di_ground, is_sought}
use Rattle.arborescence.specs.Problem.{directed}
use Rattle.log_format.specs.declared.log.Log.{Log}
use Rattle.log_format.specs.declared.log.Version.TheVariants.{Two}
use Rattle.log_format.specs.declared.log.Claim.TheVariants as claim
use Rattle.log_format.specs.declared.proof_line.ProofLine.{ProofLine}
use Rattle.log_format.specs.declared.proof_line.ProofLine.TheVariants.{Split, Close}
use Rattle.log_format.specs.Accepts.{AcceptsIn, ProvesAfterIn}
use Rattle.log_format.specs.Text.{IsLog}
use Rattle.directed_search.specs.declared.outcome.DiOutcome.{DiOutcome}
use Rattle.directed_search.specs.declared.outcome.DiOutcome.TheVariants.{Found, NoTree}

-- how many vertices are neither the root nor a terminal
abbrev pub di_free_vertices : DiNetwork → ℕ
di_free_vertices D = sum_to (λ v. if is_sought D v then 0 else 1) D.n

-- of the numbers up to primal that the lines prove of all trees, dual is the greatest
abbrev pub IsGreatestDiBound : DiNetwork → ℕ → ℕ → List ProofLine → Type 0
IsGreatestDiBound D primal dual lines = (x : ℕ) → x ≤ primal → ProvesAfterIn (directed D) [] x lines → x ≤ dual

-- how many closes weigh less than primal
abbrev pub light_closes : ℕ → List ProofLine → ℕ
light_closes primal [] = 0
light_closes primal (Split at ∷ lines) = light_closes primal lines
light_closes primal (Close P ∷ lines) = (if nat_lt (total (λ c. c.y) P.cuts) primal then 1 else 0) + light_closes primal lines

-- a tree of this cost, a bound on the cost of every tree, and their certificate, for which so many nodes were worked on
pub record IsDiFound (nodes : ℕ) (D : DiNetwork) (tree : Tree) (primal dual expanded : ℕ) (log : Log) : Type 0 where
  pub is_tree : IsTreeIn (di_ground D) tree
  pub is_cost : primal ≡ cost_in (di_ground D) tree
  pub is_bound : IsBoundIn (di_ground D) dual
  pub is_below : dual ≤ primal
  pub within : expanded ≤ nodes
  pub proof : List ProofLine
  pub version : log.version ≡ Two
  pub claims : log.claim ≡ claim.Found primal dual tree [] proof
  pub greatest : IsGreatestDiBound D primal dual proof
  pub all_spent : dual < primal → expanded ≡ nodes
  -- each node that was worked on has a line, and so has each light close, for which no budget was left
  pub worked : expanded + light_closes primal proof ≤ length proof
  pub is_log : IsLog log
  pub accepted : AcceptsIn (directed D) log
  -- a budget that is sure to suffice
  pub enough : 2 ^ (di_free_vertices D + 1) ≤ nodes → dual ≡ primal

-- the instance has no tree, and the log says why
pub record IsDiWithoutTree (D : DiNetwork) (log : Log) : Type 0 where
  pub wall : List ℕ
  pub none : (t : Tree) → IsTreeIn (di_ground D) t → ⊥
  pub version : log.version ≡ Two
  pub claims : log.claim ≡ claim.NoTree wall
  pub is_log : IsLog log
  pub accepted : AcceptsIn (directed D) log

-- what is right of a directed instance, where so many nodes may be worked on
abbrev pub IsDiOutcome : ℕ → DiNetwork → DiOutcome → Type 0
IsDiOutcome nodes D (Found tree primal dual expanded log) = IsDiFound nodes D tree primal dual expanded log
IsDiOutcome nodes D (NoTree log) = IsDiWithoutTree D log

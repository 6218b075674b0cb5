-- How far a search came, and how that changes. Helpers' clauses cite this, and no public one.
use Rattle.std.specs.Prelude.{◌≡◌, ℕ, ◌+◌, ◌≤◌, min, List, [], ◌∷◌, ◌++◌}
use Rattle.st_model.specs.declared.split_at.SplitAt.TheVariants.{Vertex}
use Rattle.st_model.specs.declared.tree.Tree.{Tree}
use Rattle.st_model.specs.Arborescence.{IsTreeIn, cost_in}
use Rattle.st_model.specs.Lists.{total}
use Rattle.cut_packing.specs.declared.packing.Packing.{Packing}
use Rattle.arborescence.specs.DiNetwork.{DiNetwork, di_ground}
use Rattle.log_format.specs.declared.proof_line.ProofLine.{ProofLine}
use Rattle.log_format.specs.declared.proof_line.ProofLine.TheVariants.{Split, Close}

pub record State : Type 0 where
  -- the best tree so far, and what it costs
  pub best : Tree
  pub primal : ℕ
  -- the least that a close weighs, or what the best tree costs
  pub least : ℕ
  -- the splits and closes so far
  pub lines : List ProofLine
  -- how many nodes may be expanded, and how many were
  pub budget : ℕ
  pub expanded : ℕ

-- nothing is done yet, with a tree of this cost
abbrev pub begun : Tree → ℕ → ℕ → State
begun tree cost budget = record { best = tree; primal = cost; least = cost; lines = []; budget = budget; expanded = 0 }

-- one more node is expanded
abbrev pub counted : State → State
counted s = record s { expanded = s.expanded + 1 }

-- what a packing's cuts are worth
abbrev pub worth : Packing → ℕ
worth P = total (λ c. c.y) P.cuts

-- a node is closed by a packing
abbrev pub closed_by : State → Packing → State
closed_by s P = record s { least = min s.least (worth P); lines = s.lines ++ Close P ∷ [] }

-- a node is split at a vertex
abbrev pub split_at : State → ℕ → State
split_at s v = record s { lines = s.lines ++ Split (Vertex v) ∷ [] }

-- maybe a cheaper tree was found, and else all is as it was
pub record IsImproved (D : DiNetwork) (old new : State) : Type 0 where
  pub is_tree : IsTreeIn (di_ground D) old.best → IsTreeIn (di_ground D) new.best
  pub is_cost : old.primal ≡ cost_in (di_ground D) old.best → new.primal ≡ cost_in (di_ground D) new.best
  pub no_more : new.primal ≤ old.primal
  pub least : old.least ≤ old.primal → new.least ≡ min old.least new.primal
  pub lines : new.lines ≡ old.lines
  pub budget : new.budget ≡ old.budget
  pub expanded : new.expanded ≡ old.expanded

-- A walk over the lines of a proof, by the path to the branch that the next line is about. Helpers' clauses cite this, and
-- no public one.
use Rattle.std.specs.Prelude.{◌≡◌, ℕ, ◌+◌, ◌<◌, ◌≤◌, List, [], ◌∷◌, Option, Some, None, IfSome}
use Rattle.st_model.specs.Network.{Network, IsInstance}
use Rattle.cut_packing.specs.Packing.{Fits}
use Rattle.cut_packing.specs.ProofTree.{IsSplitAt}
use Rattle.branching.specs.declared.node.Node.{Node}
use Rattle.log_format.specs.declared.proof_line.ProofLine.{ProofLine}
use Rattle.log_format.specs.declared.proof_line.ProofLine.TheVariants.{Split, Close}
use Rattle.log_format.specs.Text.{IsWritablePacking}
use Rattle.cert_checker.specs.declared.turn.Turn.{Turn}
use Rattle.cert_checker.specs.Path.{AreSplits, branch_of, next_path, yes_path}
use Rattle.log_resume.specs.Closes.{node_weight}

-- the instance, and the path to the first branch that is open, if one is
pub record Opened : Type 0 where
  pub instance : Network
  pub path : Option (List Turn)

-- what holds of every walk: the path goes by splits of the instance
pub record IsOpened (o : Opened) : Type 0 where
  pub is_instance : IsInstance o.instance
  pub splits : IfSome o.path (AreSplits o.instance)

-- the lines are right from a path on: each split is where its branch can be split, each packing fits its branch and can be
-- written, and they end where no branch is open
abbrev pub AreRightFrom : Network → Option (List Turn) → List ProofLine → Type 0
AreRightFrom I None [] = Unit {0}
AreRightFrom I None (line ∷ lines) = ⊥
AreRightFrom I (Some path) [] = ⊥
AreRightFrom I (Some path) (Split at ∷ lines) = IsSplitAt I (branch_of path) at × AreRightFrom I (Some (yes_path path at)) lines
AreRightFrom I (Some path) (Close P ∷ lines) = Fits I (branch_of path) P × IsWritablePacking P × AreRightFrom I (next_path path) lines

-- the node of this number that a line closes, where a branch is open
abbrev pub closed_by : Option (List Turn) → ℕ → ProofLine → Option Node
closed_by None number line = None
closed_by (Some path) number (Split at) = None
closed_by (Some path) number (Close P) = Some (record { id = number; branch = branch_of path; packing = P })

-- how many closes a line is
abbrev pub closes_in : ProofLine → ℕ
closes_in (Split at) = 0
closes_in (Close P) = 1

-- the closes among some lines from a path on, numbered from this number on
abbrev pub closes_along : Option (List Turn) → ℕ → List ProofLine → List Node
closes_along path number [] = []
closes_along None number (line ∷ lines) = []
closes_along (Some path) number (Split at ∷ lines) = closes_along (Some (yes_path path at)) number lines
closes_along (Some path) number (Close P ∷ lines) = record { id = number; branch = branch_of path; packing = P } ∷ closes_along (next_path path) (number + 1) lines

-- what is found of a line: the node that it closes, if that weighs less than a number, and else none
abbrev pub IsLightOf : Network → ℕ → Option Node → Option Node → Type 0
IsLightOf I least closed None = IfSome closed (λ N. least ≤ node_weight I N)
IsLightOf I least closed (Some N) = (closed ≡ Some N) × (node_weight I N < least)

-- What is right and what is wrong with a tree, a step and a line of a proof.
use Rattle.std.specs.Prelude.{◌≡◌, ℕ, ◌≤◌}
use Rattle.st_model.specs.declared.branch.Branch.{Branch}
use Rattle.st_model.specs.Ground.{Ground}
use Rattle.st_model.specs.declared.tree.Tree.{Tree}
use Rattle.st_model.specs.Arborescence.{IsTreeIn, cost_in}
use Rattle.cut_packing.specs.Packing.{FitsIn, weight_in}
use Rattle.cut_packing.specs.ProofTree.{IsSplitAtIn, ClosesIn}
use Rattle.lift_back.specs.declared.step.Step.{Step}
use Rattle.lift_back.specs.State.{State}
use Rattle.lift_back.specs.Steps.{MayTake}
use Rattle.log_format.specs.declared.kind.Kind.{Kind}
use Rattle.log_format.specs.declared.kind.Kind.TheVariants.{NotTree, WrongCost, DualAbovePrimal, BadStep, BadSplit, BadPacking, TooLight}
use Rattle.log_format.specs.declared.proof_line.ProofLine.{ProofLine}
use Rattle.log_format.specs.declared.proof_line.ProofLine.TheVariants.{Split, Close}
use Rattle.log_format.specs.Accepts.{FailsFirst}
use Rattle.cert_checker.specs.declared.posed.Rest.{Rest}
use Rattle.cert_checker.specs.declared.posed.Rest.TheVariants.{Left, Whole}
use Rattle.cert_checker.specs.declared.fault.JudgeError.{JudgeError}
use Rattle.cert_checker.specs.declared.fault.JudgeError.TheVariants.{Fault, NoMemory}

-- where it isn't memory, the fault is such a one
abbrev pub IfFault : JudgeError → (ℕ → Kind → Type 0) → Type 0
IfFault (Fault f) P = P f.line f.kind
IfFault NoMemory P = Unit {0}

-- the line is right of its branch, where x is to be proved
abbrev pub IsRightLine : Ground → ℕ → Branch → ProofLine → Type 0
IsRightLine G x B (Split at) = IsSplitAtIn G B at
IsRightLine G x B (Close P) = ClosesIn G B x P

-- the step may not be taken; number is that of its line
abbrev pub IsBadStep : State → ℕ → Step → ℕ → Kind → Type 0
IsBadStep s number step line kind = FailsFirst (MayTake step s) number BadStep line kind ⊥

-- the same of what is left: of a directed problem no step may be taken
abbrev pub IsBadStepOf : Rest → ℕ → Step → ℕ → Kind → Type 0
IsBadStepOf (Left R) number step line kind = IsBadStep R.state number step line kind
IsBadStepOf Whole number step line kind = (line ≡ number) × (kind ≡ BadStep)

-- the first check of the line that fails; number is its own
abbrev pub IsWrongLine : Ground → ℕ → Branch → ℕ → ProofLine → ℕ → Kind → Type 0
IsWrongLine G x B number (Split at) line kind = FailsFirst (IsSplitAtIn G B at) number BadSplit line kind ⊥
IsWrongLine G x B number (Close P) line kind = FailsFirst (FitsIn G B P) number BadPacking line kind (FailsFirst (x ≤ weight_in G B P) number TooLight line kind ⊥)

-- a tree at this cost, and a bound that isn't above it
pub record IsRightTree (G : Ground) (primal dual : ℕ) (tree : Tree) : Type 0 where
  pub is_tree : IsTreeIn G tree
  pub is_cost : primal ≡ cost_in G tree
  pub is_below : dual ≤ primal

-- the first check of a tree and its numbers that fails
abbrev pub IsWrongTree : Ground → ℕ → ℕ → Tree → ℕ → Kind → Type 0
IsWrongTree G primal dual tree line kind = FailsFirst (IsTreeIn G tree) 3 NotTree line kind (FailsFirst (primal ≡ cost_in G tree) 2 WrongCost line kind (FailsFirst (dual ≤ primal) 2 DualAbovePrimal line kind ⊥))

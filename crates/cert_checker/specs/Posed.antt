-- The problem that a log is checked on, and what its steps leave of it.
use Rattle.std.specs.Prelude.{◌≡◌, ℕ, List, [], Option, Some, None}
use Rattle.st_model.specs.declared.branch.Branch.{Branch}
use Rattle.st_model.specs.Branch.{all_trees}
use Rattle.st_model.specs.Ground.{Ground}
use Rattle.arborescence.specs.Problem.{Problem, plain, directed, ground_of}
use Rattle.lift_back.specs.declared.step.Step.{Step}
use Rattle.lift_back.specs.State.{State, IsState, whole}
use Rattle.lift_back.specs.Steps.{Takes, Applies}
use Rattle.log_format.specs.Accepts.{left_of, left_over}
use Rattle.cert_checker.specs.declared.posed.Posed.{Posed}
use Rattle.cert_checker.specs.declared.posed.Posed.TheVariants as posed
use Rattle.cert_checker.specs.declared.posed.Rest.{Rest}
use Rattle.cert_checker.specs.declared.posed.Rest.TheVariants as rest

-- the problem
abbrev pub problem_of : Posed → Problem
problem_of (posed.Plain I) = plain I
problem_of (posed.Directed D) = directed D

-- what its trees, packings and splits are judged over
abbrev pub ground_on : Posed → Ground
ground_on p = ground_of (problem_of p)

-- what is left where it isn't the whole problem, and else the problem
abbrev pub left_or : Posed → Option Posed → Posed
left_or whole None = whole
left_or whole (Some left) = left

-- the same in terms of problems
abbrev pub problem_left : Problem → Option Posed → Problem
problem_left K None = K
problem_left K (Some left) = problem_of left

-- what its trees, packings and splits are judged over
abbrev pub ground_left : Problem → Option Posed → Ground
ground_left K left = ground_of (problem_left K left)

-- the steps lead from the problem to this: of a directed one none is taken
abbrev pub LeadTo : Problem → List Step → Rest → Type 0
LeadTo (plain I) steps (rest.Left R) = Applies steps (whole I) R.state
LeadTo (plain I) steps rest.Whole = ⊥
LeadTo (directed D) steps (rest.Left R) = ⊥
LeadTo (directed D) steps rest.Whole = steps ≡ []

-- one step leads from this to that
abbrev pub IsTakenOf : Rest → Step → Rest → Type 0
IsTakenOf (rest.Left R) step (rest.Left S) = IsState S.state × Takes step R.state S.state
IsTakenOf _ step _ = ⊥

-- what is to be proved of what some steps leave so that x is proved of the problem: y of this branch of that problem
abbrev pub IsDue : Problem → List Step → ℕ → Problem → Branch → ℕ → Type 0
IsDue (plain I) steps x q B y = (s : State) × Applies steps (whole I) s × (q ≡ plain s.instance) × (B ≡ left_over s) × (y ≡ left_of x s)
IsDue (directed D) steps x q B y = (steps ≡ []) × (q ≡ directed D) × (B ≡ all_trees) × (y ≡ x)

-- When a log is right of a problem, and what is wrong with it first where it isn't.
use Rattle.std.specs.Prelude.{◌≡◌, ℕ, ◌+◌, ◌-◌, ◌≤◌, ◌⊎◌, List, [], ◌∷◌, length}
use Rattle.st_model.specs.declared.branch.Branch.{Branch}
use Rattle.st_model.specs.declared.tree.Tree.{Tree}
use Rattle.st_model.specs.Network.{Network, IsInstance}
use Rattle.st_model.specs.Ground.{Ground, ground}
use Rattle.st_model.specs.Arborescence.{IsTreeIn, IsBoundIn, IsBestIn, cost_in}
use Rattle.st_model.specs.Branch.{all_trees, avoiding, yes_half, no_half}
use Rattle.cut_packing.specs.Packing.{FitsIn, weight_in}
use Rattle.cut_packing.specs.ProofTree.{ProofTree, IsSplitAtIn, ProvesIn}
use Rattle.arborescence.specs.DiNetwork.{DiNetwork, di_ground}
use Rattle.arborescence.specs.Problem.{Problem, plain, directed, ground_of, IsProblem, IsWallOf}
use Rattle.lift_back.specs.declared.step.Step.{Step}
use Rattle.lift_back.specs.State.{State, IsState, whole}
use Rattle.lift_back.specs.Steps.{Takes, Applies, MayTake}
use Rattle.log_format.specs.declared.kind.Kind.{Kind}
use Rattle.log_format.specs.declared.kind.Kind.TheVariants.{NotTree, WrongCost, DualAbovePrimal, BadStep, BadSplit, BadPacking, TooLight, BadWall}
use Rattle.log_format.specs.declared.log.Log.{Log}
use Rattle.log_format.specs.declared.log.Claim.{Claim}
use Rattle.log_format.specs.declared.log.Claim.TheVariants.{Found, NoTree}
use Rattle.log_format.specs.declared.proof_line.ProofLine.{ProofLine}
use Rattle.log_format.specs.declared.proof_line.ProofLine.TheVariants.{Split, Close}
use Rattle.log_format.specs.Preorder.{preorder}

-- the lines are a proof tree that proves x of the branch
abbrev pub ProvesOfIn : Ground → Branch → ℕ → List ProofLine → Type 0
ProvesOfIn G B x lines = (p : ProofTree) × (lines ≡ preorder p) × ProvesIn G B x p

-- the same in a network
abbrev pub ProvesOf : Network → Branch → ℕ → List ProofLine → Type 0
ProvesOf I B x lines = ProvesOfIn (ground I) B x lines

-- the branch of the trees that reach nobody who is gone
abbrev pub left_over : State → Branch
left_over s = avoiding s.gone

-- what has to be proved of what is left so that x is proved of the whole: x less what is paid besides
abbrev pub left_of : ℕ → State → ℕ
left_of x s = x - s.offset

-- the lines prove of what is left that x is a bound of the whole
abbrev pub ProvesFrom : State → ℕ → List ProofLine → Type 0
ProvesFrom s x lines = ProvesOf s.instance (left_over s) (left_of x s) lines

-- the lines prove it of what the steps leave
abbrev pub ProvesAfter : Network → List Step → ℕ → List ProofLine → Type 0
ProvesAfter I steps x lines = (s : State) × Applies steps (whole I) s × ProvesFrom s x lines

-- the same of a problem: of a directed one no step is taken, and the lines prove it of all trees
abbrev pub ProvesAfterIn : Problem → List Step → ℕ → List ProofLine → Type 0
ProvesAfterIn (plain I) steps x lines = ProvesAfter I steps x lines
ProvesAfterIn (directed D) steps x lines = (steps ≡ []) × ProvesOfIn (di_ground D) all_trees x lines

-- a tree of the problem at this cost, and a bound that isn't above it and is proved
pub record AcceptsFoundIn (p : Problem) (primal dual : ℕ) (tree : Tree) (steps : List Step) (proof : List ProofLine) : Type 0 where
  pub is_tree : IsTreeIn (ground_of p) tree
  pub is_cost : primal ≡ cost_in (ground_of p) tree
  pub is_below : dual ≤ primal
  pub is_proved : ProvesAfterIn p steps dual proof

-- the claim is right of the problem
abbrev pub AcceptsClaimIn : Problem → Claim → Type 0
AcceptsClaimIn p (Found primal dual tree steps proof) = AcceptsFoundIn p primal dual tree steps proof
AcceptsClaimIn p (NoTree wall) = IsWallOf p wall

-- the log is right of the problem
abbrev pub AcceptsIn : Problem → Log → Type 0
AcceptsIn p log = AcceptsClaimIn p log.claim

-- what an accepted claim means: a tree of this cost and a bound, and a best tree where they are equal; or no tree at all
abbrev pub HoldsIn : Problem → Claim → Type 0
HoldsIn p (Found primal dual tree steps proof) = IsTreeIn (ground_of p) tree × (cost_in (ground_of p) tree ≡ primal) × IsBoundIn (ground_of p) dual × (dual ≡ primal → IsBestIn (ground_of p) tree)
HoldsIn p (NoTree wall) = (t : Tree) → IsTreeIn (ground_of p) t → ⊥

-- what is accepted of a problem holds
abbrev pub AcceptedOfAProblemHolds : Type 0
AcceptedOfAProblemHolds = (p : Problem) (log : Log) → IsProblem p → AcceptsIn p log → HoldsIn p log.claim

-- the same in a network
abbrev pub AcceptsFound : Network → ℕ → ℕ → Tree → List Step → List ProofLine → Type 0
AcceptsFound I primal dual tree steps proof = AcceptsFoundIn (plain I) primal dual tree steps proof

abbrev pub AcceptsClaim : Network → Claim → Type 0
AcceptsClaim I claim = AcceptsClaimIn (plain I) claim

abbrev pub Accepts : Network → Log → Type 0
Accepts I log = AcceptsIn (plain I) log

abbrev pub Holds : Network → Claim → Type 0
Holds I claim = HoldsIn (plain I) claim

abbrev pub AcceptedHolds : Type 0
AcceptedHolds = (I : Network) (log : Log) → IsInstance I → Accepts I log → Holds I log.claim

-- a check is the first to fail, at this line and as this kind; or it passes, and the others fail
abbrev pub FailsFirst : Type 0 → ℕ → Kind → ℕ → Kind → Type 0 → Type 0
FailsFirst Check at is line kind Others = ((¬ Check) × (line ≡ at) × (kind ≡ is)) ⊎ (Check × Others)

-- the first of the steps that may not be taken in the state that those before it lead to; or all may, and the others fail of the
-- state that they lead to; number is that of the first step's line
abbrev pub IsFirstBad : State → ℕ → List Step → ℕ → Kind → (State → Type 0) → Type 0
IsFirstBad s number [] line kind Others = Others s
IsFirstBad s number (step ∷ steps) line kind Others = FailsFirst (MayTake step s) number BadStep line kind ((next : State) × IsState next × Takes step s next × IsFirstBad next (number + 1) steps line kind Others)

-- the first of the lines that is wrong, where these branches wait and x is to be proved; number is that of the first line
abbrev pub IsFirstWrongOver : Ground → ℕ → List Branch → ℕ → List ProofLine → ℕ → Kind → Type 0
IsFirstWrongOver G x [] number lines line kind = ⊥
IsFirstWrongOver G x (B ∷ Bs) number [] line kind = ⊥
IsFirstWrongOver G x (B ∷ Bs) number (Split at ∷ lines) line kind = FailsFirst (IsSplitAtIn G B at) number BadSplit line kind (IsFirstWrongOver G x (yes_half B at ∷ no_half B at ∷ Bs) (number + 1) lines line kind)
IsFirstWrongOver G x (B ∷ Bs) number (Close P ∷ lines) line kind = FailsFirst (FitsIn G B P) number BadPacking line kind (FailsFirst (x ≤ weight_in G B P) number TooLight line kind (IsFirstWrongOver G x Bs (number + 1 + length P.cuts) lines line kind))

-- the same in a network
abbrev pub IsFirstWrong : Network → ℕ → List Branch → ℕ → List ProofLine → ℕ → Kind → Type 0
IsFirstWrong I x Bs number lines line kind = IsFirstWrongOver (ground I) x Bs number lines line kind

-- the same of what is left, where x is to be proved of the whole
abbrev pub IsFirstWrongIn : State → ℕ → ℕ → List ProofLine → ℕ → Kind → Type 0
IsFirstWrongIn s x number lines line kind = IsFirstWrong s.instance (left_of x s) (left_over s ∷ []) number lines line kind

-- the line of the first step
abbrev pub steps_line : Tree → ℕ
steps_line tree = 5 + length tree.arcs

-- the line on which a proof begins
abbrev pub proof_line : Tree → List Step → ℕ
proof_line tree steps = 6 + length tree.arcs + length steps

-- of a directed problem the first step is bad; without steps the first line that is wrong
abbrev pub IsFirstWrongFrom : DiNetwork → ℕ → Tree → List Step → List ProofLine → ℕ → Kind → Type 0
IsFirstWrongFrom D dual tree [] proof line kind = IsFirstWrongOver (di_ground D) dual (all_trees ∷ []) (proof_line tree []) proof line kind
IsFirstWrongFrom D dual tree (step ∷ steps) proof line kind = (line ≡ steps_line tree) × (kind ≡ BadStep)

-- the first step or line of the proof that is wrong
abbrev pub IsFirstWrongAfter : Problem → ℕ → Tree → List Step → List ProofLine → ℕ → Kind → Type 0
IsFirstWrongAfter (plain I) dual tree steps proof line kind = IsFirstBad (whole I) (steps_line tree) steps line kind (λ s. IsFirstWrongIn s dual (proof_line tree steps) proof line kind)
IsFirstWrongAfter (directed D) dual tree steps proof line kind = IsFirstWrongFrom D dual tree steps proof line kind

-- the first check that a claim fails, and its line
abbrev pub RejectsClaimIn : Problem → Claim → ℕ → Kind → Type 0
RejectsClaimIn p (Found primal dual tree steps proof) line kind = FailsFirst (IsTreeIn (ground_of p) tree) 3 NotTree line kind
    (FailsFirst (primal ≡ cost_in (ground_of p) tree) 2 WrongCost line kind
    (FailsFirst (dual ≤ primal) 2 DualAbovePrimal line kind
    (IsFirstWrongAfter p dual tree steps proof line kind)))
RejectsClaimIn p (NoTree wall) line kind = FailsFirst (IsWallOf p wall) 3 BadWall line kind ⊥

abbrev pub RejectsIn : Problem → Log → ℕ → Kind → Type 0
RejectsIn p log line kind = RejectsClaimIn p log.claim line kind

-- the same in a network
abbrev pub RejectsClaim : Network → Claim → ℕ → Kind → Type 0
RejectsClaim I claim line kind = RejectsClaimIn (plain I) claim line kind

abbrev pub Rejects : Network → Log → ℕ → Kind → Type 0
Rejects I log line kind = RejectsIn (plain I) log line kind

-- How what is judged follows the items of a log. Helpers' clauses cite this, and no public one.
use Rattle.std.specs.Prelude.{◌≡◌, ℕ, zero, suc, ◌+◌, ◌^◌, ◌≤◌, ◌<◌, ◌⊎◌, List, [], ◌∷◌, ◌++◌, length, Option, Some, None}
use Rattle.st_model.specs.declared.branch.Branch.{Branch}
use Rattle.st_model.specs.declared.tree.Tree.{Tree}
use Rattle.st_model.specs.Ground.{Ground}
use Rattle.st_model.specs.Branch.{yes_half, no_half}
use Rattle.cut_packing.specs.declared.cut.Cut.{Cut}
use Rattle.cut_packing.specs.ProofTree.{IsSplitAtIn, ClosesIn}
use Rattle.arborescence.specs.Problem.{Problem, ground_of}
use Rattle.lift_back.specs.declared.step.Step.{Step}
use Rattle.lift_back.specs.State.{IsState}
use Rattle.log_format.specs.declared.fault.LogFault.{LogFault}
use Rattle.log_format.specs.declared.item.Item.{Item}
use Rattle.log_format.specs.declared.kind.Kind.{Kind}
use Rattle.log_format.specs.declared.log.Claim.{Claim}
use Rattle.log_format.specs.declared.log.Claim.TheVariants.{Found}
use Rattle.log_format.specs.declared.proof_line.ProofLine.{ProofLine}
use Rattle.log_format.specs.declared.proof_line.ProofLine.TheVariants.{Split, Close}
use Rattle.log_format.specs.declared.stage.Answer.{Answer}
use Rattle.log_format.specs.declared.stage.Proving as said_proving
use Rattle.log_format.specs.declared.stage.Stage as said_stage
use Rattle.log_format.specs.declared.stage.Stage.TheVariants.{AtHeader, AtClaim, AtTree, AtArcs, AtSteps, AtHalf, AtCuts, AtWall, AtEnd, AtNothing}
use Rattle.log_format.specs.Accepts.{AcceptsClaimIn, RejectsClaimIn, IsFirstWrongOver, left_of, steps_line, proof_line}
use Rattle.log_format.specs.Places.{taken}
use Rattle.log_format.specs.Text.{lines_of}
use Rattle.cert_checker.specs.declared.posed.Rest.{Rest}
use Rattle.cert_checker.specs.declared.posed.Rest.TheVariants.{Left, Whole}
use Rattle.cert_checker.specs.declared.posed.Posed.{Posed}
use Rattle.cert_checker.specs.declared.posed.Posed.TheVariants.{Plain}
use Rattle.cert_checker.specs.declared.stage.Stage.{Stage}
use Rattle.cert_checker.specs.declared.stage.Stage.TheVariants.{BeforeHeader, BeforeClaim, BeforeTree, AmongArcs, AmongSteps, BeforeHalf, AmongCuts, BeforeWall, Right, Wrong}
use Rattle.cert_checker.specs.declared.stage.Stepping.{Stepping}
use Rattle.cert_checker.specs.declared.stage.Proving.{Proving}
use Rattle.cert_checker.specs.declared.turn.Turn.{Turn}
use Rattle.cert_checker.specs.declared.verdict.Verdict.{Verdict}
use Rattle.cert_checker.specs.Judging.{IsRightLine, IsWrongLine, IsRightTree, IsWrongTree, IsBadStepOf}
use Rattle.cert_checker.specs.Path.{branch_of, leaving_out, waiting, open_branches, path_after, AreSplitsIn}
use Rattle.cert_checker.specs.Posed.{problem_left, ground_left, LeadTo, IsTakenOf, IsDue}
use Rattle.cert_checker.specs.Verdict.{verdict_of}

-- all that was said by the items so far
abbrev pub Said : Type 0
Said = said_stage.Stage

-- what some items say, after what was said before
abbrev pub said_by : Said → List Item → Said
said_by s [] = s
said_by s (item ∷ items) = said_by (taken s item) items

-- a claim that begins with what was said, as far as something was judged
abbrev pub MayBe : Said → Claim → Type 0
MayBe (AtSteps a left) claim = (more : List Step) × (proof : List ProofLine) × (claim ≡ Found a.primal a.dual a.tree (a.steps ++ more) proof)
MayBe (AtHalf p) claim = (more : List ProofLine) × (claim ≡ Found p.answer.primal p.answer.dual p.answer.tree p.answer.steps (p.lines ++ more))
MayBe (AtCuts p root cuts left) claim = (more : List ProofLine) × (claim ≡ Found p.answer.primal p.answer.dual p.answer.tree p.answer.steps (p.lines ++ more))
MayBe (AtEnd c) claim = claim ≡ c
MayBe (AtNothing c) claim = claim ≡ c
MayBe _ claim = Unit {0}

-- each line is right, where these branches wait
abbrev pub AreRight : Ground → ℕ → List Branch → List ProofLine → Type 0
AreRight G x [] [] = Unit {0}
AreRight G x [] (line ∷ lines) = ⊥
AreRight G x (B ∷ Bs) [] = ⊥
AreRight G x (B ∷ Bs) (Split at ∷ lines) = IsSplitAtIn G B at × AreRight G x (yes_half B at ∷ no_half B at ∷ Bs) lines
AreRight G x (B ∷ Bs) (Close P ∷ lines) = ClosesIn G B x P × AreRight G x Bs lines

-- the lines after these decide on all of them, which are to prove x of the branch: the first of those has this number and is of the branch at the end of this path
pub record GoesOn (G : Ground) (x first : ℕ) (B : Branch) (lines : List ProofLine) (path : List Turn) (number : ℕ) : Type 0 where
  pub splits : AreSplitsIn G path
  pub right : (rest : List ProofLine) → AreRight G x (open_branches path) rest → AreRight G x (B ∷ []) (lines ++ rest)
  pub wrong : (rest : List ProofLine) (line : ℕ) (kind : Kind) → IsFirstWrongOver G x (open_branches path) number rest line kind → IsFirstWrongOver G x (B ∷ []) first (lines ++ rest) line kind

-- the tree is right, and the steps were taken
pub record IsStepping (p : Problem) (count : ℕ) (a : Answer) (h : Stepping) : Type 0 where
  pub primal : h.primal ≡ a.primal
  pub dual : h.dual ≡ a.dual
  pub tree : IsRightTree (ground_of p) a.primal a.dual a.tree
  pub applied : LeadTo p a.steps h.rest
  pub number : h.number ≡ steps_line a.tree + length a.steps
  pub few : h.number ≤ count + 1

-- the tree is right, the steps were taken, and the lines are right of what they leave
pub record IsProving (p : Problem) (count : ℕ) (q : said_proving.Proving) (h : Proving) : Type 0 where
  pub primal : h.primal ≡ q.answer.primal
  pub dual : h.dual ≡ q.answer.dual
  pub tree : IsRightTree (ground_of p) q.answer.primal q.answer.dual q.answer.tree
  pub branch : Branch
  pub due : IsDue p q.answer.steps q.answer.dual (problem_left p h.left) branch h.least
  pub goes_on : GoesOn (ground_left p h.left) h.least (proof_line q.answer.tree q.answer.steps) branch q.lines h.path h.number
  pub wait : length (waiting h.path) ≡ q.waiting
  pub few : h.number ≤ count + 1

-- no check failed of what was said in so many lines
abbrev pub IsRight : Problem → ℕ → Said → Stage → Type 0
IsRight p count AtHeader stage = stage ≡ BeforeHeader
IsRight p count AtClaim stage = (stage ≡ BeforeClaim) × (1 ≤ count)
IsRight p count (AtTree primal dual) stage = (stage ≡ BeforeTree primal dual) × (2 ≤ count)
IsRight p count (AtArcs primal dual start arcs left) stage = (stage ≡ AmongArcs primal dual start arcs) × (3 + length arcs ≤ count)
IsRight p count (AtSteps a left) stage = (h : Stepping) × (stage ≡ AmongSteps h) × IsStepping p count a h
IsRight p count (AtHalf q) stage = (h : Proving) × (stage ≡ BeforeHalf h) × IsProving p count q h
IsRight p count (AtCuts q root cuts left) stage = (h : Proving) × (stage ≡ AmongCuts h root cuts left) × IsProving p count q h × (h.number + length cuts ≤ count)
IsRight p count AtWall stage = stage ≡ BeforeWall
IsRight p count (AtEnd claim) stage = (stage ≡ Right (verdict_of claim)) × AcceptsClaimIn p claim
IsRight p count (AtNothing claim) stage = (stage ≡ Right (verdict_of claim)) × AcceptsClaimIn p claim

-- a check failed, for which each claim that begins so is rejected
abbrev pub IsWrong : Problem → Said → Stage → Type 0
IsWrong p s stage = (f : LogFault) × (stage ≡ Wrong f) × ((claim : Claim) → MayBe s claim → RejectsClaimIn p claim f.line f.kind)

-- this is judged of what was said in so many lines
abbrev pub IsJudged : Problem → ℕ → Said → Stage → Type 0
IsJudged p count s stage = IsRight p count s stage ⊎ IsWrong p s stage

-- the next stage is judged of what was said and one item more, wherever the one before was of what was said
abbrev pub Follows : Problem → Item → Stage → Stage → Type 0
Follows p item stage next = (count : ℕ) (s : Said) → count < 2 ^ 63 → IsJudged p count s stage → IsJudged p (count + 1) (taken s item) next

-- the path of a proof goes by splits
abbrev pub IsReady : Problem → Stage → Type 0
IsReady p (BeforeHalf h) = AreSplitsIn (ground_left p h.left) h.path
IsReady p (AmongCuts h root cuts left) = AreSplitsIn (ground_left p h.left) h.path
IsReady p _ = Unit {0}

-- what is judged of a tree and its numbers
abbrev pub IsAfterTree : Problem → ℕ → ℕ → Tree → Stage → Type 0
IsAfterTree p primal dual tree (AmongSteps h) = IsRightTree (ground_of p) primal dual tree × (h.primal ≡ primal) × (h.dual ≡ dual) × LeadTo p [] h.rest × (h.number ≡ steps_line tree)
IsAfterTree p primal dual tree (Wrong f) = IsWrongTree (ground_of p) primal dual tree f.line f.kind
IsAfterTree p primal dual tree _ = ⊥

-- the step was taken
pub record IsTaken (before : Stepping) (step : Step) (h : Stepping) : Type 0 where
  pub takes : IsTakenOf before.rest step h.rest
  pub primal : h.primal ≡ before.primal
  pub dual : h.dual ≡ before.dual
  pub number : before.number + 1 < 2 ^ 64 → h.number ≡ before.number + 1

-- what is judged of a step
abbrev pub IsAfterStep : Stepping → Step → Stage → Type 0
IsAfterStep before step (AmongSteps h) = IsTaken before step h
IsAfterStep before step (Wrong f) = IsBadStepOf before.rest before.number step f.line f.kind
IsAfterStep before step _ = ⊥

-- what is to be proved of what is left so that x is proved of the whole: y of the branch that this path leads to
abbrev pub IsFirst : Rest → ℕ → Option Posed → ℕ → List Turn → Type 0
IsFirst (Left R) x left y path = IsState R.state × (left ≡ Some (Plain R.state.instance)) × (y ≡ left_of x R.state) × (path ≡ leaving_out R.state.gone)
IsFirst Whole x left y path = (left ≡ None) × (y ≡ x) × (path ≡ [])

-- the proof of what the steps left, of which no line has come
pub record IsBegun (before : Stepping) (h : Proving) : Type 0 where
  pub primal : h.primal ≡ before.primal
  pub dual : h.dual ≡ before.dual
  pub first : IsFirst before.rest before.dual h.left h.least h.path
  pub number : before.number + 1 < 2 ^ 64 → h.number ≡ before.number + 1

-- the proof after a right line that isn't its last
pub record IsNext (p : Problem) (before : Proving) (line : ProofLine) (h : Proving) : Type 0 where
  pub right : IsRightLine (ground_left p before.left) before.least (branch_of before.path) line
  pub next : path_after before.path line ≡ Some h.path
  pub primal : h.primal ≡ before.primal
  pub dual : h.dual ≡ before.dual
  pub left : h.left ≡ before.left
  pub least : h.least ≡ before.least
  pub number : before.number + length (lines_of line) < 2 ^ 64 → h.number ≡ before.number + length (lines_of line)

-- the last line is right
pub record IsProved (p : Problem) (before : Proving) (line : ProofLine) (verdict : Verdict) : Type 0 where
  pub right : IsRightLine (ground_left p before.left) before.least (branch_of before.path) line
  pub last : path_after before.path line ≡ None
  pub told : (tree : Tree) (steps : List Step) (proof : List ProofLine) → verdict ≡ verdict_of (Found before.primal before.dual tree steps proof)

-- what is judged of a line of a proof
abbrev pub IsAfterLine : Problem → Proving → ProofLine → Stage → Type 0
IsAfterLine p before line (BeforeHalf h) = IsNext p before line h
IsAfterLine p before line (Right verdict) = IsProved p before line verdict
IsAfterLine p before line (Wrong f) = IsWrongLine (ground_left p before.left) before.least (branch_of before.path) before.number line f.line f.kind
IsAfterLine p before line _ = ⊥

-- what is judged of a close of which so many cuts are to come
abbrev pub IsAfterCuts : Problem → Proving → Option ℕ → List Cut → ℕ → Stage → Type 0
IsAfterCuts p before root cuts zero next = IsAfterLine p before (Close (record { root = root; cuts = cuts })) next
IsAfterCuts p before root cuts (suc left) next = next ≡ AmongCuts before root cuts (suc left)

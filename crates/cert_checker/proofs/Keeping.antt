-- What is judged stays so where an item says nothing at its place, and a fault stays whatever comes.
use Rattle.std.proofs.Common.{◌≡◌, ℕ, zero, suc, ◌+◌, ◌-◌, ◌<◌, List, [], ◌∷◌, ◌++◌, Option, inl, inr, sym, ap, ◌∙◌, append_assoc, arith}
use Rattle.std.proofs.lemmas.List.{append-nil}
use Rattle.arborescence.specs.Problem.{Problem}
use Rattle.cut_packing.specs.declared.cut.Cut.{Cut}
use Rattle.lift_back.specs.declared.step.Step.{Step}
use Rattle.log_format.specs.declared.item.Item.{Item}
use Rattle.log_format.specs.declared.item.Item.TheVariants.{OneStep, ProofHead, Split as OneSplit, CloseHead, OneCut, Last}
use Rattle.log_format.specs.declared.log.Claim.{Claim}
use Rattle.log_format.specs.declared.log.Claim.TheVariants.{Found}
use Rattle.log_format.specs.declared.proof_line.ProofLine.{ProofLine}
use Rattle.log_format.specs.declared.proof_line.ProofLine.TheVariants.{Split, Close}
use Rattle.log_format.specs.declared.stage.Answer.{Answer}
use Rattle.log_format.specs.declared.stage.Proving as said_proving
use Rattle.log_format.specs.declared.stage.Stage.TheVariants.{AtHeader, AtClaim, AtTree, AtArcs, AtSteps, AtHalf, AtCuts, AtWall, AtEnd, AtNothing}
use Rattle.log_format.specs.Places.{taken}
use Rattle.log_format.specs.Reading.{closed, cuts_left}
use Rattle.cert_checker.specs.declared.stage.Stage.{Stage}
use Rattle.cert_checker.specs.declared.stage.Stage.TheVariants.{BeforeHeader, BeforeClaim, BeforeTree, AmongArcs, AmongSteps, BeforeHalf, AmongCuts, BeforeWall, Right, Wrong}
use Rattle.cert_checker.specs.declared.stage.Stepping.{Stepping}
use Rattle.cert_checker.specs.declared.stage.Proving.{Proving}
use Rattle.cert_checker.specs.Following.{Said, MayBe, IsStepping, IsProving, IsRight, IsWrong, IsJudged}

-- ---- what a claim begins with

-- the claim goes on after these lines
abbrev pub GoesOnTo : Answer → List ProofLine → Claim → Type 0
GoesOnTo a lines claim = (more : List ProofLine) × (claim ≡ Found a.primal a.dual a.tree a.steps (lines ++ more))

closed_before : (a : Answer) (lines : List ProofLine) (line : ProofLine) (w : ℕ) (claim : Claim) → MayBe (closed a (lines ++ line ∷ []) w) claim → GoesOnTo a lines claim
closed_before a lines line zero claim is = (line ∷ [], is)
closed_before a lines line (suc w) claim (more, is) = (line ∷ more, is ∙ ap (λ (r : List ProofLine). Found a.primal a.dual a.tree a.steps r) (append_assoc lines (line ∷ []) more))

cuts_before : (p : said_proving.Proving) (root : Option ℕ) (cuts : List Cut) (left : ℕ) (claim : Claim) → MayBe (cuts_left p root cuts left) claim → GoesOnTo p.answer p.lines claim
cuts_before p root cuts zero claim may = closed_before p.answer p.lines (Close (record { root = root; cuts = cuts })) p.waiting claim may
cuts_before p root cuts (suc left) claim may = may

-- a claim that begins with one item more begins with what was said before
may_before : (s : Said) (item : Item) (claim : Claim) → MayBe (taken s item) claim → MayBe s claim
may_before AtHeader item claim may = tt
may_before AtClaim item claim may = tt
may_before (AtTree primal dual) item claim may = tt
may_before (AtArcs primal dual start arcs left) item claim may = tt
may_before AtWall item claim may = tt
may_before (AtSteps a left) (OneStep step) claim (more, proof, is) = (step ∷ more, proof, is ∙ ap (λ (r : List Step). Found a.primal a.dual a.tree r proof) (append_assoc a.steps (step ∷ []) more))
may_before (AtSteps a left) ProofHead claim (more, is) = ([], more, is ∙ ap (λ (r : List Step). Found a.primal a.dual a.tree r more) (sym (append-nil a.steps)))
may_before (AtHalf p) (OneSplit at) claim (more, is) = (Split at ∷ more, is ∙ ap (λ (r : List ProofLine). Found p.answer.primal p.answer.dual p.answer.tree p.answer.steps r) (append_assoc p.lines (Split at ∷ []) more))
may_before (AtHalf p) (CloseHead root count) claim may = cuts_before p root [] count claim may
may_before (AtCuts p root cuts left) (OneCut c) claim may = cuts_before p root (cuts ++ c ∷ []) (left - 1) claim may
may_before (AtEnd c) Last claim may = may
may_before s item claim may = may

-- a fault stays
pub wrong_later : (K : Problem) (s : Said) (item : Item) (stage : Stage) → IsWrong K s stage → IsWrong K (taken s item) stage
wrong_later K s item stage (f, is, rejects) = (f, is, λ claim may. rejects claim (may_before s item claim may))

-- ---- what was right so far

pub proving_later : (K : Problem) (count : ℕ) (p : said_proving.Proving) (h : Proving) → IsProving K count p h → IsProving K (count + 1) p h
proving_later K count p h so_far = record {
  primal = so_far.primal;
  dual = so_far.dual;
  tree = so_far.tree;
  branch = so_far.branch;
  due = so_far.due;
  goes_on = so_far.goes_on;
  wait = so_far.wait;
  few = omega (arith, so_far.few);
}

stepping_later : (K : Problem) (count : ℕ) (a : Answer) (h : Stepping) → IsStepping K count a h → IsStepping K (count + 1) a h
stepping_later K count a h so_far = record {
  primal = so_far.primal;
  dual = so_far.dual;
  tree = so_far.tree;
  applied = so_far.applied;
  number = so_far.number;
  few = omega (arith, so_far.few);
}

-- one line later
pub right_later : (K : Problem) (count : ℕ) (s : Said) (stage : Stage) → IsRight K count s stage → IsRight K (count + 1) s stage
right_later K count AtClaim stage (is, few) = (is, omega (arith, few))
right_later K count (AtTree primal dual) stage (is, few) = (is, omega (arith, few))
right_later K count (AtArcs primal dual start arcs left) stage (is, few) = (is, omega (arith, few))
right_later K count (AtSteps a left) stage (h, is, so_far) = (h, is, stepping_later K count a h so_far)
right_later K count (AtHalf p) stage (h, is, so_far) = (h, is, proving_later K count p h so_far)
right_later K count (AtCuts p root cuts left) stage (h, is, so_far, few) = (h, is, proving_later K count p h so_far, omega (arith, few))
right_later K count s stage right = right

-- ---- which stage it is

abbrev pub tag : Stage → ℕ
tag BeforeHeader = 0
tag BeforeClaim = 1
tag (BeforeTree primal dual) = 2
tag (AmongArcs primal dual start arcs) = 3
tag (AmongSteps h) = 4
tag (BeforeHalf h) = 5
tag (AmongCuts h root cuts left) = 6
tag BeforeWall = 7
tag (Right verdict) = 8
tag (Wrong f) = 9

abbrev pub said_tag : Said → ℕ
said_tag AtHeader = 0
said_tag AtClaim = 1
said_tag (AtTree primal dual) = 2
said_tag (AtArcs primal dual start arcs left) = 3
said_tag (AtSteps a left) = 4
said_tag (AtHalf p) = 5
said_tag (AtCuts p root cuts left) = 6
said_tag AtWall = 7
said_tag (AtEnd claim) = 8
said_tag (AtNothing claim) = 8

same_tag : (K : Problem) (count : ℕ) (s : Said) (stage : Stage) → IsRight K count s stage → tag stage ≡ said_tag s
same_tag K count AtHeader stage is = ap tag is
same_tag K count AtClaim stage (is, few) = ap tag is
same_tag K count (AtTree primal dual) stage (is, few) = ap tag is
same_tag K count (AtArcs primal dual start arcs left) stage (is, few) = ap tag is
same_tag K count (AtSteps a left) stage (h, is, so_far) = ap tag is
same_tag K count (AtHalf p) stage (h, is, so_far) = ap tag is
same_tag K count (AtCuts p root cuts left) stage (h, is, so_far, few) = ap tag is
same_tag K count AtWall stage is = ap tag is
same_tag K count (AtEnd claim) stage (is, accepts) = ap tag is
same_tag K count (AtNothing claim) stage (is, accepts) = ap tag is

-- without a fault it is right so far
right_of : (K : Problem) (count : ℕ) (s : Said) (stage : Stage) → tag stage < 9 → IsJudged K count s stage → IsRight K count s stage
right_of K count s stage below (inl right) = right
right_of K count s stage below (inr (f, is, rejects)) = absurd (omega (arith, below, ap tag is))

-- and the stage tells how far
pub right_at : (K : Problem) (count : ℕ) (s : Said) (stage : Stage) → tag stage < 9 → IsJudged K count s stage → IsRight K count s stage × (said_tag s ≡ tag stage)
right_at K count s stage below judged = let right = right_of K count s stage below judged in (right, sym (same_tag K count s stage right))

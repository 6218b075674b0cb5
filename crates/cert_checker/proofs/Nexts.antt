-- What is judged by an item at its place, before the proof.
use Rattle.std.proofs.Common.{◌≡◌, ℕ, ◌+◌, ◌-◌, ◌<◌, ◌≤◌, ◌^◌, List, [], ◌∷◌, ◌++◌, Option, length, inl, inr, refl, sym, ap, subst, ◌∙◌, append_assoc, length-append, arith}
use Rattle.st_model.specs.declared.branch.Branch.{Branch}
use Rattle.st_model.specs.declared.tree.Tree.{Tree}
use Rattle.arborescence.specs.Problem.{Problem, plain, directed, ground_of, IsWallOf}
use Rattle.st_model.specs.Branch.{all_trees}
use Rattle.lift_back.specs.declared.step.Step.{Step}
use Rattle.lift_back.specs.State.{State, IsState, whole}
use Rattle.lift_back.specs.Steps.{Takes, Applies}
use Rattle.log_format.specs.declared.fault.LogFault.{LogFault}
use Rattle.log_format.specs.declared.item.Item.TheVariants.{Header, ClaimTree, ClaimNone, Wall, TreeHead, Arc, StepsHead, OneStep, ProofHead}
use Rattle.log_format.specs.declared.kind.Kind.{Kind}
use Rattle.log_format.specs.declared.log.Claim.{Claim}
use Rattle.log_format.specs.declared.log.Claim.TheVariants.{Found, NoTree}
use Rattle.log_format.specs.declared.log.Version.{Version}
use Rattle.log_format.specs.declared.proof_line.ProofLine.{ProofLine}
use Rattle.log_format.specs.declared.stage.Answer.{Answer}
use Rattle.log_format.specs.declared.stage.Stage.TheVariants.{AtHeader, AtClaim, AtTree, AtArcs, AtSteps, AtWall}
use Rattle.log_format.specs.Accepts.{RejectsClaimIn, IsFirstBad, IsFirstWrongAfter, IsFirstWrongIn, left_over, steps_line, proof_line}
use Rattle.log_format.specs.Places.{taken}
use Rattle.log_format.proofs.Alike.{takes_may}
use Rattle.cert_checker.specs.declared.posed.Rest.{Rest}
use Rattle.cert_checker.specs.declared.posed.Rest.TheVariants.{Left, Whole}
use Rattle.cert_checker.specs.declared.posed.Posed.{Posed}
use Rattle.cert_checker.specs.declared.stage.Stage.{Stage}
use Rattle.cert_checker.specs.declared.stage.Stage.TheVariants.{BeforeHeader, BeforeClaim, BeforeTree, AmongArcs, AmongSteps, BeforeHalf, BeforeWall, Right, Wrong}
use Rattle.cert_checker.specs.declared.stage.Stepping.{Stepping}
use Rattle.cert_checker.specs.declared.stage.Proving.{Proving}
use Rattle.cert_checker.specs.declared.verdict.Verdict.TheVariants as verdict
use Rattle.cert_checker.specs.Judging.{IsWrongTree, IsBadStep, IsBadStepOf}
use Rattle.cert_checker.specs.declared.turn.Turn.{Turn}
use Rattle.cert_checker.specs.Path.{branch_of, leaving_out, waiting, AreSplitsIn}
use Rattle.cert_checker.specs.Posed.{problem_left, ground_left, LeadTo, IsTakenOf, IsDue}
use Rattle.cert_checker.specs.Following.{Said, GoesOn, IsStepping, IsJudged, IsAfterTree, IsAfterStep, IsBegun, IsFirst}
use Rattle.cert_checker.proofs.GoingOn.{begins}
use Rattle.cert_checker.proofs.Keeping.{right_at}
use Rattle.cert_checker.proofs.LeftOut.{none_waits, left_out_splits, leads_to_left_over}

-- ---- before the tree

pub header_next : (K : Problem) (count : ℕ) (version : Version) (s : Said) → IsJudged K count s BeforeHeader → IsJudged K (count + 1) (taken s (Header version)) BeforeClaim
header_next K count version AtHeader judged = inl (refl, omega arith)
header_next K count version s judged = let at = right_at K count s BeforeHeader (omega arith) judged in absurd (omega (arith, at.1))

pub claim_next : (K : Problem) (count primal dual : ℕ) (s : Said) → IsJudged K count s BeforeClaim → IsJudged K (count + 1) (taken s (ClaimTree primal dual)) (BeforeTree primal dual)
claim_next K count primal dual AtClaim judged = let at = right_at K count AtClaim BeforeClaim (omega arith) judged in inl (refl, omega (arith, at.0.1))
claim_next K count primal dual s judged = let at = right_at K count s BeforeClaim (omega arith) judged in absurd (omega (arith, at.1))

pub none_next : (K : Problem) (count : ℕ) (s : Said) → IsJudged K count s BeforeClaim → IsJudged K (count + 1) (taken s ClaimNone) BeforeWall
none_next K count AtClaim judged = inl refl
none_next K count s judged = let at = right_at K count s BeforeClaim (omega arith) judged in absurd (omega (arith, at.1))

pub wall_right : (K : Problem) (count : ℕ) (wall : List ℕ) (s : Said) → IsWallOf K wall → IsJudged K count s BeforeWall → IsJudged K (count + 1) (taken s (Wall wall)) (Right verdict.NoTree)
wall_right K count wall AtWall is_wall judged = inl (refl, is_wall)
wall_right K count wall s is_wall judged = let at = right_at K count s BeforeWall (omega arith) judged in absurd (omega (arith, at.1))

pub wall_wrong : (K : Problem) (count : ℕ) (wall : List ℕ) (f : LogFault) (s : Said) → RejectsClaimIn K (NoTree wall) f.line f.kind → IsJudged K count s BeforeWall
    → IsJudged K (count + 1) (taken s (Wall wall)) (Wrong f)
wall_wrong K count wall f AtWall rejects judged = inr (f, refl, λ claim may. subst (λ (c : Claim). RejectsClaimIn K c f.line f.kind) (sym may) rejects)
wall_wrong K count wall f s rejects judged = let at = right_at K count s BeforeWall (omega arith) judged in absurd (omega (arith, at.1))

-- ---- the tree

pub tree_next : (K : Problem) (count primal dual start arcs : ℕ) (s : Said) → IsJudged K count s (BeforeTree primal dual)
    → IsJudged K (count + 1) (taken s (TreeHead start arcs)) (AmongArcs primal dual start [])
tree_next K count primal dual start arcs (AtTree p d) judged =
    let at = right_at K count (AtTree p d) (BeforeTree primal dual) (omega arith) judged in
    let same : BeforeTree primal dual ≡ BeforeTree p d = at.0.0 in
    let primals : primal ≡ p = cc in
    let duals : dual ≡ d = cc in
    inl (λ i. AmongArcs (primals i) (duals i) start [], omega (arith, at.0.1))
tree_next K count primal dual start arcs s judged = let at = right_at K count s (BeforeTree primal dual) (omega arith) judged in absurd (omega (arith, at.1))

pub arc_next : (K : Problem) (count primal dual start tail head : ℕ) (arcs : List (ℕ × ℕ)) (s : Said) → IsJudged K count s (AmongArcs primal dual start arcs)
    → IsJudged K (count + 1) (taken s (Arc tail head)) (AmongArcs primal dual start (arcs ++ (tail, head) ∷ []))
arc_next K count primal dual start tail head arcs (AtArcs p d st list left) judged =
    let at = right_at K count (AtArcs p d st list left) (AmongArcs primal dual start arcs) (omega arith) judged in
    let same : AmongArcs primal dual start arcs ≡ AmongArcs p d st list = at.0.0 in
    let primals : primal ≡ p = cc in
    let duals : dual ≡ d = cc in
    let starts : start ≡ st = cc in
    let lists : arcs ≡ list = cc in
    inl (λ i. AmongArcs (primals i) (duals i) (starts i) (lists i ++ (tail, head) ∷ []), omega (arith, at.0.1, length-append list ((tail, head) ∷ [])))
arc_next K count primal dual start tail head arcs s judged = let at = right_at K count s (AmongArcs primal dual start arcs) (omega arith) judged in absurd (omega (arith, at.1))

-- a tree that is judged, where its arcs are those that were said
tree_judged : (K : Problem) (count primal dual start left : ℕ) (arcs : List (ℕ × ℕ)) (next : Stage) → 3 + length arcs ≤ count
    → IsAfterTree K primal dual (record { start = start; arcs = arcs }) next
    → IsJudged K (count + 1) (AtSteps (record { primal = primal; dual = dual; tree = record { start = start; arcs = arcs }; steps = [] }) left) next
tree_judged K count primal dual start left arcs (AmongSteps h) few (tree, primals, duals, none, number) = inl (
  h,
  refl,
  record {
    primal = primals;
    dual = duals;
    tree = tree;
    applied = none;
    number = omega (arith, number);
    few = omega (arith, number, few);
  },
)
tree_judged K count primal dual start left arcs (Wrong f) few wrong = inr (f, refl, λ claim (more, proof, is). subst (λ (c : Claim). RejectsClaimIn K c f.line f.kind) (sym is) (rejected wrong more proof))
  where
    rejected : IsWrongTree (ground_of K) primal dual (record { start = start; arcs = arcs }) f.line f.kind → (steps : List Step) (proof : List ProofLine)
        → RejectsClaimIn K (Found primal dual (record { start = start; arcs = arcs }) steps proof) f.line f.kind
    rejected (inl bad) steps proof = inl bad
    rejected (inr (tree, inl bad)) steps proof = inr (tree, inl bad)
    rejected (inr (tree, inr (cost, inl bad))) steps proof = inr (tree, inr (cost, inl bad))
    rejected (inr (tree, inr (cost, inr none))) steps proof = absurd none.1
tree_judged K count primal dual start left arcs next few after = absurd after

pub count_next : (K : Problem) (count primal dual start steps : ℕ) (arcs : List (ℕ × ℕ)) (next : Stage) (s : Said) → IsAfterTree K primal dual (record { start = start; arcs = arcs }) next
    → IsJudged K count s (AmongArcs primal dual start arcs) → IsJudged K (count + 1) (taken s (StepsHead steps)) next
count_next K count primal dual start steps arcs next (AtArcs p d st list left) after judged =
    let at = right_at K count (AtArcs p d st list left) (AmongArcs primal dual start arcs) (omega arith) judged in
    let same : AmongArcs primal dual start arcs ≡ AmongArcs p d st list = at.0.0 in
    let primals : primal ≡ p = cc in
    let duals : dual ≡ d = cc in
    let starts : start ≡ st = cc in
    let lists : arcs ≡ list = cc in
    tree_judged K count p d st steps list next at.0.1 (subst (λ (r : List (ℕ × ℕ)). IsAfterTree K p d (record { start = st; arcs = r }) next) lists (subst (λ (n : ℕ). IsAfterTree K p d (record { start = n; arcs = arcs }) next) starts
    (subst (λ (n : ℕ). IsAfterTree K p n (record { start = start; arcs = arcs }) next) duals (subst (λ (n : ℕ). IsAfterTree K n dual (record { start = start; arcs = arcs }) next) primals after))))
count_next K count primal dual start steps arcs next s after judged = let at = right_at K count s (AmongArcs primal dual start arcs) (omega arith) judged in absurd (omega (arith, at.1))

-- ---- the steps

-- one step more is taken
applies_more : (steps : List Step) (step : Step) (first s next : State) → Applies steps first s → IsState next → Takes step s next → Applies (steps ++ step ∷ []) first next
applies_more [] step first s next same is_next takes = (next, is_next, subst (λ (u : State). Takes step u next) (sym same) takes, refl)
applies_more (one ∷ steps) step first s next (then, is_then, takes_one, later) is_next takes = (then, is_then, takes_one, applies_more steps step then s next later is_next takes)

-- a step that may not be taken is the first, whatever comes after it
first_bad : (steps : List Step) (step : Step) (more : List Step) (first s : State) (at : ℕ) (line : ℕ) (kind : Kind) (O : State → Type 0) → Applies steps first s
    → IsBadStep s (at + length steps) step line kind → IsFirstBad first at (steps ++ (step ∷ more)) line kind O
first_bad [] step more first s at line kind O same (inl bad) = subst (λ (u : State). IsFirstBad u at (step ∷ more) line kind O) (sym same) (inl (bad.0, omega (arith, bad.1), bad.2))
first_bad [] step more first s at line kind O same (inr none) = absurd none.1
first_bad (one ∷ steps) step more first s at line kind O (then, is_then, takes, later) bad =
    let sum : at + length (one ∷ steps) ≡ at + 1 + length steps = omega arith in
    inr (takes_may one first then takes, (then, is_then, takes, first_bad steps step more then s (at + 1) line kind O later (subst (λ (n : ℕ). IsBadStep s n step line kind) sum bad)))

-- one step more leads on
leads_on : (K : Problem) (steps : List Step) (step : Step) (R S : Rest) → LeadTo K steps R → IsTakenOf R step S → LeadTo K (steps ++ step ∷ []) S
leads_on (plain I) steps step (Left R) (Left S) applied taken = applies_more steps step (whole I) R.state S.state applied taken.0 taken.1
leads_on (plain I) steps step (Left R) Whole applied taken = absurd taken
leads_on (plain I) steps step Whole S applied taken = absurd applied
leads_on (directed D) steps step (Left R) S applied taken = absurd applied
leads_on (directed D) steps step Whole S applied taken = absurd taken

-- the first step that may not be taken is wrong, whatever comes after it
bad_after : (K : Problem) (dual : ℕ) (tree : Tree) (steps : List Step) (step : Step) (more : List Step) (proof : List ProofLine) (R : Rest) (line : ℕ) (kind : Kind) → LeadTo K steps R
    → IsBadStepOf R (steps_line tree + length steps) step line kind → IsFirstWrongAfter K dual tree ((steps ++ step ∷ []) ++ more) proof line kind
bad_after (plain I) dual tree steps step more proof (Left R) line kind applied bad =
    let all = (steps ++ step ∷ []) ++ more in
    let O : State → Type 0 = λ u. IsFirstWrongIn u dual (proof_line tree all) proof line kind in
    let first = first_bad steps step more (whole I) R.state (steps_line tree) line kind O applied bad in
    subst (λ (r : List Step). IsFirstBad (whole I) (steps_line tree) r line kind O) (sym (append_assoc steps (step ∷ []) more)) first
bad_after (plain I) dual tree steps step more proof Whole line kind applied bad = absurd applied
bad_after (directed D) dual tree steps step more proof (Left R) line kind applied bad = absurd applied
bad_after (directed D) dual tree [] step more proof Whole line kind applied bad = (omega (arith, bad.0), bad.1)
bad_after (directed D) dual tree (one ∷ steps) step more proof Whole line kind applied bad = absurd cc

-- a step that is judged, where it is the next
step_judged : (K : Problem) (count left : ℕ) (a : Answer) (h : Stepping) (step : Step) (next : Stage) → count < 2 ^ 63 → IsStepping K count a h → IsAfterStep h step next
    → IsJudged K (count + 1) (AtSteps (record { primal = a.primal; dual = a.dual; tree = a.tree; steps = a.steps ++ step ∷ [] }) left) next
step_judged K count left a h step (AmongSteps next) below so_far is =
    let here : next.number ≡ h.number + 1 = is.number (omega (arith, below, so_far.few)) in
    inl (
      next,
      refl,
      record {
        primal = is.primal ∙ so_far.primal;
        dual = is.dual ∙ so_far.dual;
        tree = so_far.tree;
        applied = leads_on K a.steps step h.rest next.rest so_far.applied is.takes;
        number = omega (arith, here, so_far.number, length-append a.steps (step ∷ []));
        few = omega (arith, here, so_far.few);
      },
    )
step_judged K count left a h step (Wrong f) below so_far bad =
    let wrong = subst (λ (n : ℕ). IsBadStepOf h.rest n step f.line f.kind) so_far.number bad in
    inr (
      f,
      refl,
      λ claim (more, proof, is).
          subst (λ (c : Claim). RejectsClaimIn K c f.line f.kind) (sym is)
          (inr (so_far.tree.is_tree, inr (so_far.tree.is_cost, inr (so_far.tree.is_below, bad_after K a.dual a.tree a.steps step more proof h.rest f.line f.kind so_far.applied wrong)))),
    )
step_judged K count left a h step next below so_far none = absurd none

pub step_next : (K : Problem) (count : ℕ) (h : Stepping) (step : Step) (next : Stage) (s : Said) → count < 2 ^ 63 → IsAfterStep h step next → IsJudged K count s (AmongSteps h)
    → IsJudged K (count + 1) (taken s (OneStep step)) next
step_next K count h step next (AtSteps a left) below after judged =
    let at = right_at K count (AtSteps a left) (AmongSteps h) (omega arith) judged in
    let same : at.0.0 ≡ h = cc in
    step_judged K count (left - 1) a h step next below (subst (IsStepping K count a) same at.0.2) after
step_next K count h step next s below after judged = let at = right_at K count s (AmongSteps h) (omega arith) judged in absurd (omega (arith, at.1))

-- what is due first, where the path to its branch leads by splits and no half waits
record IsSetOut (K : Problem) (steps : List Step) (x : ℕ) (left : Option Posed) (y : ℕ) (path : List Turn) : Type 0 where
  branch : Branch
  due : IsDue K steps x (problem_left K left) branch y
  leads : branch_of path ≡ branch
  alone : waiting path ≡ []
  splits : AreSplitsIn (ground_left K left) path

set_out : (K : Problem) (steps : List Step) (x : ℕ) (R : Rest) (left : Option Posed) (y : ℕ) (path : List Turn) → LeadTo K steps R → IsFirst R x left y path → IsSetOut K steps x left y path
set_out (plain I) steps x (Left R) left y path applied (state, is_left, least, is) = record {
  branch = left_over R.state;
  due = (R.state, applied, ap (problem_left (plain I)) is_left, refl, least);
  leads = ap branch_of is ∙ leads_to_left_over R.state state;
  alone = ap waiting is ∙ none_waits R.state state;
  splits = subst (λ (p : List Turn). AreSplitsIn (ground_left (plain I) left) p) (sym is) (subst (λ (L : Option Posed). AreSplitsIn (ground_left (plain I) L) (leaving_out R.state.gone)) (sym is_left) (left_out_splits R.state state));
}
set_out (plain I) steps x Whole left y path applied first = absurd applied
set_out (directed D) steps x (Left R) left y path applied first = absurd applied
set_out (directed D) steps x Whole left y path none (is_left, least, is) = record {
  branch = all_trees;
  due = (none, ap (problem_left (directed D)) is_left, refl, least);
  leads = ap branch_of is;
  alone = ap waiting is;
  splits = subst (λ (p : List Turn). AreSplitsIn (ground_left (directed D) left) p) (sym is) tt;
}

pub proof_next : (K : Problem) (count : ℕ) (before : Stepping) (h : Proving) (s : Said) → count < 2 ^ 63 → IsBegun before h → IsJudged K count s (AmongSteps before)
    → IsJudged K (count + 1) (taken s ProofHead) (BeforeHalf h)
proof_next K count before h (AtSteps a left) below begun judged =
    let at = right_at K count (AtSteps a left) (AmongSteps before) (omega arith) judged in
    let same : at.0.0 ≡ before = cc in
    let so_far : IsStepping K count a before = subst (IsStepping K count a) same at.0.2 in
    let here : h.number ≡ before.number + 1 = begun.number (omega (arith, so_far.few)) in
    let first : h.number ≡ proof_line a.tree a.steps = omega (arith, here, so_far.number) in
    let set : IsSetOut K a.steps before.dual h.left h.least h.path = set_out K a.steps before.dual before.rest h.left h.least h.path so_far.applied begun.first in
    inl (
      h,
      refl,
      record {
        primal = begun.primal ∙ so_far.primal;
        dual = begun.dual ∙ so_far.dual;
        tree = so_far.tree;
        branch = set.branch;
        due = subst (λ (x : ℕ). IsDue K a.steps x (problem_left K h.left) set.branch h.least) so_far.dual set.due;
        goes_on = subst (λ (B : Branch). GoesOn (ground_left K h.left) h.least (proof_line a.tree a.steps) B [] h.path h.number) set.leads (subst (λ (n : ℕ). GoesOn (ground_left K h.left) h.least n (branch_of h.path) [] h.path h.number) first (begins (ground_left K h.left) h.least h.number h.path set.splits set.alone));
        wait = ap length set.alone;
        few = omega (arith, here, so_far.few);
      },
    )
proof_next K count before h s below begun judged = let at = right_at K count s (AmongSteps before) (omega arith) judged in absurd (omega (arith, at.1))

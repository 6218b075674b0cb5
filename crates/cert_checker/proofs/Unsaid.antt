-- An item that says nothing at its place leaves what is judged as it is.
use Rattle.std.proofs.Common.{◌≡◌, ℕ, ◌+◌, List, Option, inl, inr}
use Rattle.st_model.specs.declared.split_at.SplitAt.{SplitAt}
use Rattle.arborescence.specs.Problem.{Problem}
use Rattle.cut_packing.specs.declared.cut.Cut.{Cut}
use Rattle.lift_back.specs.declared.step.Step.{Step}
use Rattle.log_format.specs.declared.item.Item.TheVariants.{Header, ClaimTree, ClaimNone, Wall, TreeHead, Arc, StepsHead, OneStep, ProofHead, Split as OneSplit, CloseHead, OneCut, Last}
use Rattle.log_format.specs.declared.log.Version.{Version}
use Rattle.log_format.specs.declared.stage.Stage.TheVariants.{AtHeader, AtClaim, AtTree, AtArcs, AtSteps, AtHalf, AtCuts, AtWall, AtEnd}
use Rattle.log_format.specs.Places.{taken}
use Rattle.cert_checker.specs.declared.stage.Stage.{Stage}
use Rattle.cert_checker.specs.declared.stage.Stage.TheVariants.{BeforeHeader, BeforeClaim, BeforeTree, AmongArcs, AmongSteps, BeforeHalf, AmongCuts, BeforeWall}
use Rattle.cert_checker.specs.declared.stage.Stepping.{Stepping}
use Rattle.cert_checker.specs.declared.stage.Proving.{Proving}
use Rattle.cert_checker.specs.Following.{Said, IsJudged}
use Rattle.cert_checker.proofs.Keeping.{wrong_later, right_later}

module _ (K : Problem) (count : ℕ) (stage : Stage) where
  pub no_header : ¬ (stage ≡ BeforeHeader) → (version : Version) (s : Said) → IsJudged K count s stage → IsJudged K (count + 1) (taken s (Header version)) stage
  no_header not version AtHeader (inl is) = absurd (not is)
  no_header not version s (inl right) = inl (right_later K count s stage right)
  no_header not version s (inr wrong) = inr (wrong_later K s (Header version) stage wrong)

  pub no_claim : ¬ (stage ≡ BeforeClaim) → (primal dual : ℕ) (s : Said) → IsJudged K count s stage → IsJudged K (count + 1) (taken s (ClaimTree primal dual)) stage
  no_claim not primal dual AtClaim (inl right) = absurd (not right.0)
  no_claim not primal dual s (inl right) = inl (right_later K count s stage right)
  no_claim not primal dual s (inr wrong) = inr (wrong_later K s (ClaimTree primal dual) stage wrong)

  pub no_none : ¬ (stage ≡ BeforeClaim) → (s : Said) → IsJudged K count s stage → IsJudged K (count + 1) (taken s ClaimNone) stage
  no_none not AtClaim (inl right) = absurd (not right.0)
  no_none not s (inl right) = inl (right_later K count s stage right)
  no_none not s (inr wrong) = inr (wrong_later K s ClaimNone stage wrong)

  pub no_wall : ¬ (stage ≡ BeforeWall) → (wall : List ℕ) (s : Said) → IsJudged K count s stage → IsJudged K (count + 1) (taken s (Wall wall)) stage
  no_wall not wall AtWall (inl is) = absurd (not is)
  no_wall not wall s (inl right) = inl (right_later K count s stage right)
  no_wall not wall s (inr wrong) = inr (wrong_later K s (Wall wall) stage wrong)

  pub no_tree : ((primal dual : ℕ) → ¬ (stage ≡ BeforeTree primal dual)) → (start arcs : ℕ) (s : Said) → IsJudged K count s stage → IsJudged K (count + 1) (taken s (TreeHead start arcs)) stage
  no_tree not start arcs (AtTree primal dual) (inl right) = absurd (not primal dual right.0)
  no_tree not start arcs s (inl right) = inl (right_later K count s stage right)
  no_tree not start arcs s (inr wrong) = inr (wrong_later K s (TreeHead start arcs) stage wrong)

  pub no_arc : ((primal dual start : ℕ) (arcs : List (ℕ × ℕ)) → ¬ (stage ≡ AmongArcs primal dual start arcs)) → (tail head : ℕ) (s : Said) → IsJudged K count s stage
      → IsJudged K (count + 1) (taken s (Arc tail head)) stage
  no_arc not tail head (AtArcs primal dual start arcs left) (inl right) = absurd (not primal dual start arcs right.0)
  no_arc not tail head s (inl right) = inl (right_later K count s stage right)
  no_arc not tail head s (inr wrong) = inr (wrong_later K s (Arc tail head) stage wrong)

  pub no_count : ((primal dual start : ℕ) (arcs : List (ℕ × ℕ)) → ¬ (stage ≡ AmongArcs primal dual start arcs)) → (steps : ℕ) (s : Said) → IsJudged K count s stage
      → IsJudged K (count + 1) (taken s (StepsHead steps)) stage
  no_count not steps (AtArcs primal dual start arcs left) (inl right) = absurd (not primal dual start arcs right.0)
  no_count not steps s (inl right) = inl (right_later K count s stage right)
  no_count not steps s (inr wrong) = inr (wrong_later K s (StepsHead steps) stage wrong)

  pub no_step : ((h : Stepping) → ¬ (stage ≡ AmongSteps h)) → (step : Step) (s : Said) → IsJudged K count s stage → IsJudged K (count + 1) (taken s (OneStep step)) stage
  no_step not step (AtSteps a left) (inl right) = absurd (not right.0 right.1)
  no_step not step s (inl right) = inl (right_later K count s stage right)
  no_step not step s (inr wrong) = inr (wrong_later K s (OneStep step) stage wrong)

  pub no_proof : ((h : Stepping) → ¬ (stage ≡ AmongSteps h)) → (s : Said) → IsJudged K count s stage → IsJudged K (count + 1) (taken s ProofHead) stage
  no_proof not (AtSteps a left) (inl right) = absurd (not right.0 right.1)
  no_proof not s (inl right) = inl (right_later K count s stage right)
  no_proof not s (inr wrong) = inr (wrong_later K s ProofHead stage wrong)

  pub no_split : ((h : Proving) → ¬ (stage ≡ BeforeHalf h)) → (at : SplitAt) (s : Said) → IsJudged K count s stage → IsJudged K (count + 1) (taken s (OneSplit at)) stage
  no_split not at (AtHalf p) (inl right) = absurd (not right.0 right.1)
  no_split not at s (inl right) = inl (right_later K count s stage right)
  no_split not at s (inr wrong) = inr (wrong_later K s (OneSplit at) stage wrong)

  pub no_close : ((h : Proving) → ¬ (stage ≡ BeforeHalf h)) → (root : Option ℕ) (cuts : ℕ) (s : Said) → IsJudged K count s stage → IsJudged K (count + 1) (taken s (CloseHead root cuts)) stage
  no_close not root cuts (AtHalf p) (inl right) = absurd (not right.0 right.1)
  no_close not root cuts s (inl right) = inl (right_later K count s stage right)
  no_close not root cuts s (inr wrong) = inr (wrong_later K s (CloseHead root cuts) stage wrong)

  pub no_cut : ((h : Proving) (root : Option ℕ) (cuts : List Cut) (left : ℕ) → ¬ (stage ≡ AmongCuts h root cuts left)) → (c : Cut) (s : Said) → IsJudged K count s stage
      → IsJudged K (count + 1) (taken s (OneCut c)) stage
  no_cut not c (AtCuts p root cuts left) (inl right) = absurd (not right.0 root cuts left right.1)
  no_cut not c s (inl right) = inl (right_later K count s stage right)
  no_cut not c s (inr wrong) = inr (wrong_later K s (OneCut c) stage wrong)

  -- after the last line all is as it was
  pub last_line : (s : Said) → IsJudged K count s stage → IsJudged K (count + 1) (taken s Last) stage
  last_line (AtEnd claim) (inl right) = inl right
  last_line s (inl right) = inl (right_later K count s stage right)
  last_line s (inr wrong) = inr (wrong_later K s Last stage wrong)

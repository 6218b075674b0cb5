-- The lines that were read at each stage, and what holds of what they said. Helpers' clauses cite this, and no public one.
use Rattle.std.specs.Prelude.{◌≡◌, ℕ, ◌+◌, ◌^◌, ◌≤◌, ◌<◌, List, [], ◌∷◌, ◌++◌, length, map, Option, Some, IfSome, codes}
use Rattle.std.specs.List.{flat_map, AllByRecursion}
use Rattle.cut_packing.specs.declared.cut.Cut.{Cut}
use Rattle.log_format.specs.declared.log.Version.{Version}
use Rattle.log_format.specs.declared.log.Claim.{Claim}
use Rattle.log_format.specs.declared.stage.Answer.{Answer}
use Rattle.log_format.specs.declared.stage.Proving.{Proving}
use Rattle.log_format.specs.declared.stage.Stage.{Stage}
use Rattle.log_format.specs.declared.stage.Stage.TheVariants.{AtHeader, AtClaim, AtTree, AtArcs, AtSteps, AtHalf, AtCuts, AtWall, AtEnd, AtNothing}
use Rattle.log_format.specs.Text.{words, root_number, arc_line, cut_line, step_line, lines_of, header, claim_lines, IsAnyVertex, IsWritableCut, IsWritableStep, IsWritableLine, IsWritableTree, IsClaimInRange, IsProved}
use Rattle.log_format.specs.Reading.{HalvesWait, run}

-- the lines of a tree so far, of so many arcs
abbrev pub tree_lines : Version → ℕ → ℕ → ℕ → List (ℕ × ℕ) → ℕ → List (List ℕ)
tree_lines version primal dual start arcs count = header version ∷ words (codes "CLAIM TREE") (primal ∷ dual ∷ []) ∷ words (codes "TREE") (start ∷ count ∷ []) ∷ map arc_line arcs

-- the lines of the steps so far, of so many
abbrev pub answer_lines : Version → Answer → ℕ → List (List ℕ)
answer_lines version a count = tree_lines version a.primal a.dual a.tree.start a.tree.arcs (length a.tree.arcs) ++ words (codes "STEPS") (count ∷ []) ∷ map step_line a.steps

abbrev pub proof_lines : Version → Proving → List (List ℕ)
proof_lines version p = answer_lines version p.answer (length p.answer.steps) ++ codes "PROOF" ∷ flat_map lines_of p.lines

-- the lines of a close so far, of so many cuts
abbrev pub close_lines : Option ℕ → List Cut → ℕ → List (List ℕ)
close_lines root cuts count = words (codes "C") (root_number root ∷ count ∷ []) ∷ map cut_line cuts

-- the lines that were read
abbrev pub lines_read : Version → Stage → List (List ℕ)
lines_read version AtHeader = []
lines_read version AtClaim = header version ∷ []
lines_read version (AtTree primal dual) = header version ∷ words (codes "CLAIM TREE") (primal ∷ dual ∷ []) ∷ []
lines_read version (AtArcs primal dual start arcs left) = tree_lines version primal dual start arcs (length arcs + left)
lines_read version (AtSteps a left) = answer_lines version a (length a.steps + left)
lines_read version (AtHalf p) = proof_lines version p
lines_read version (AtCuts p root cuts left) = proof_lines version p ++ close_lines root cuts (length cuts + left)
lines_read version AtWall = header version ∷ codes "CLAIM NONE" ∷ []
lines_read version (AtEnd claim) = header version ∷ claim_lines claim
lines_read version (AtNothing claim) = header version ∷ (claim_lines claim ++ codes "END" ∷ [])

pub record IsAnswer (a : Answer) : Type 0 where
  pub primal_fits : a.primal < 2 ^ 64
  pub dual_fits : a.dual < 2 ^ 64
  pub tree_fits : IsWritableTree a.tree
  pub few_steps : length a.steps < 2 ^ 64
  pub steps_fit : AllByRecursion IsWritableStep a.steps

pub record IsProving (version : Version) (p : Proving) : Type 0 where
  pub answer_fits : IsAnswer p.answer
  pub lines_fit : AllByRecursion (IsWritableLine version) p.lines
  pub halves : HalvesWait p

pub record AreArcsReached (primal dual start : ℕ) (arcs : List (ℕ × ℕ)) (left : ℕ) : Type 0 where
  pub primal_fits : primal < 2 ^ 64
  pub dual_fits : dual < 2 ^ 64
  pub start_fits : IsAnyVertex start
  pub few_arcs : length arcs + left < 2 ^ 64
  pub arcs_fit : AllByRecursion (λ arc. IsAnyVertex arc.0 × IsAnyVertex arc.1) arcs

pub record AreStepsReached (a : Answer) (left : ℕ) : Type 0 where
  pub answer_fits : IsAnswer a
  pub few_in_all : length a.steps + left < 2 ^ 64

pub record AreCutsReached (version : Version) (p : Proving) (root : Option ℕ) (cuts : List Cut) (left : ℕ) : Type 0 where
  pub proving : IsProving version p
  pub root_fits : IfSome root IsAnyVertex
  pub few_cuts : length cuts + left < 2 ^ 64
  pub some_left : 1 ≤ left
  pub cuts_fit : AllByRecursion IsWritableCut cuts

abbrev pub IsClaimReached : Version → Claim → Type 0
IsClaimReached version claim = IsClaimInRange version claim × IsProved claim

-- what holds of what was read
abbrev pub IsReached : Version → Stage → Type 0
IsReached version AtHeader = Unit {0}
IsReached version AtClaim = Unit {0}
IsReached version (AtTree primal dual) = (primal < 2 ^ 64) × (dual < 2 ^ 64)
IsReached version (AtArcs primal dual start arcs left) = AreArcsReached primal dual start arcs left
IsReached version (AtSteps a left) = AreStepsReached a left
IsReached version (AtHalf p) = IsProving version p
IsReached version (AtCuts p root cuts left) = AreCutsReached version p root cuts left
IsReached version AtWall = Unit {0}
IsReached version (AtEnd claim) = IsClaimReached version claim
IsReached version (AtNothing claim) = IsClaimReached version claim

-- the lines that were read of a log of this version lead here, and what they said fits
pub record IsRead (version : Version) (s : Stage) : Type 0 where
  pub reached : IsReached version s
  pub led : run version AtHeader (lines_read version s) ≡ Some s

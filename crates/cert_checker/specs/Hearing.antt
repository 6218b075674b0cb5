-- What the lines of a log so far lead to. Helpers' clauses cite this, and no public one.
use Rattle.std.specs.Prelude.{◌≡◌, ℕ, ◌^◌, ◌<◌, Bool, true, false, List, [], ◌∷◌, ◌++◌, length, Result, Ok, Err}
use Rattle.arborescence.specs.Problem.{Problem}
use Rattle.log_format.specs.declared.item.Item.{Item}
use Rattle.log_format.specs.declared.log.Log as log_type
use Rattle.log_format.specs.declared.stage.Stage.TheVariants.{AtHeader}
use Rattle.log_format.specs.Accepts.{AcceptsIn, RejectsIn}
use Rattle.log_format.specs.Text.{IsLog, Begins, log_lines, whole_lines, unfinished}
use Rattle.cert_checker.specs.declared.fault.CheckFault.{CheckFault}
use Rattle.cert_checker.specs.declared.fault.CheckFault.TheVariants.{Log}
use Rattle.cert_checker.specs.declared.stage.Stage.{Stage}
use Rattle.cert_checker.specs.declared.verdict.Verdict.{Verdict}
use Rattle.cert_checker.specs.Following.{said_by, IsJudged}
use Rattle.cert_checker.specs.Held.{Open, none_open, opened_by, AreItemsOf}
use Rattle.cert_checker.specs.Verdict.{verdict_of}

-- the lines say items, of which this is judged, these splits aren't finished, and there are so many
pub record IsHearing (p : Problem) (lines : List (List ℕ)) (stage : Stage) (open_splits : Open) (count : ℕ) : Type 0 where
  pub items : List Item
  pub are : AreItemsOf lines items
  pub judged : IsJudged p (length items) (said_by AtHeader items) stage
  pub held : open_splits ≡ opened_by none_open items
  pub counted : count ≡ length lines

-- the lines of some log lead to this: a verdict where it is accepted, and else the fault for which it is rejected
abbrev pub IsJudgementOf : Problem → log_type.Log → Result Verdict CheckFault → Type 0
IsJudgementOf p log (Ok verdict) = AcceptsIn p log × (verdict ≡ verdict_of log.claim)
IsJudgementOf p log (Err (Log f)) = RejectsIn p log f.line f.kind
IsJudgementOf p log (Err _) = ⊥

-- where the lines are all of a log, this is judged of it
abbrev pub AreJudged : Problem → List (List ℕ) → Result Verdict CheckFault → Type 0
AreJudged p lines result = (log : log_type.Log) → IsLog log → log_lines log ≡ lines → IsJudgementOf p log result

-- each whole line of the text was taken, and this is what stands after them
pub record AreTaken (lines : List (List ℕ)) (part text : List ℕ) : Type 0 where
  pub whole : whole_lines text ≡ lines
  pub rest : unfinished text ≡ part
  pub begun : Begins lines
  pub few : length text < 2 ^ 63

-- the whole lines of the text were taken up to one that may not stand at its place
pub record AreStopped (lines : List (List ℕ)) (text : List ℕ) : Type 0 where
  pub bad : List ℕ
  pub after : List (List ℕ)
  pub whole : whole_lines text ≡ lines ++ bad ∷ after
  pub begun : Begins lines
  pub stops : ¬ (Begins (lines ++ bad ∷ []))
  pub few : length text < 2 ^ 63

-- these lines of the text were taken
abbrev pub IsFed : List (List ℕ) → Bool → List ℕ → List ℕ → Type 0
IsFed lines false part text = AreTaken lines part text
IsFed lines true part text = AreStopped lines text

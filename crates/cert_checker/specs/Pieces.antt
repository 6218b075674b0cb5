-- What a checker answers to a log that came in pieces.
use Rattle.std.specs.Prelude.{◌≡◌, ℕ, List, Result, Ok, Err}
use Rattle.amounts.specs.declared.scale.Scale.{Scale}
use Rattle.arborescence.specs.Problem.{Problem}
use Rattle.cert_checker.specs.declared.fault.CheckFault.{CheckFault}
use Rattle.cert_checker.specs.declared.fault.CheckFault.TheVariants.{Log}
use Rattle.cert_checker.specs.declared.verdict.Verdict.{Verdict}
use Rattle.cert_checker.specs.declared.verdict.Checked.{Checked}
use Rattle.cert_checker.specs.Checking.{IsAcceptedTextIn, IsWrongTextIn}

-- the problem and what its numbers count, and the pieces that came, one after the other
pub record Pieces : Type 0 where
  pub problem : Problem
  pub scale : Scale
  pub text : List ℕ

-- why this is said of the problem and the text: it is the verdict on a log that is accepted; or the first fault of text and judgement
abbrev pub IsVerdictOn : Problem → List ℕ → Result Verdict CheckFault → Type 0
IsVerdictOn p text (Ok verdict) = IsAcceptedTextIn p text verdict
IsVerdictOn p text (Err (Log f)) = IsWrongTextIn p text f.line f.kind
IsVerdictOn p text (Err _) = ⊥

-- why this is answered to the pieces: that verdict, in the file's unit, or that fault
abbrev pub IsAnswerTo : Pieces → Result Checked CheckFault → Type 0
IsAnswerTo p (Ok checked) = IsAcceptedTextIn p.problem p.text checked.verdict × (checked.scale ≡ p.scale)
IsAnswerTo p (Err (Log f)) = IsWrongTextIn p.problem p.text f.line f.kind
IsAnswerTo p (Err _) = ⊥

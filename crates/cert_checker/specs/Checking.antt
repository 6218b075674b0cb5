-- What checking a log on a file answers.
use Rattle.std.specs.Prelude.{◌≡◌, ℕ, ◌⊎◌, List, Result, Ok, Err}
use Rattle.amounts.specs.declared.scale.Scale.{Scale}
use Rattle.st_model.specs.Network.{Network}
use Rattle.arborescence.specs.Problem.{Problem, plain}
use Rattle.stp_reader.specs.Reads.{Reads, ReadsFile, Refused, RefusedFile}
use Rattle.stp_reader.specs.declared.reason.Reason.{Reason}
use Rattle.log_format.specs.declared.kind.Kind.{Kind}
use Rattle.log_format.specs.declared.log.Log as log_type
use Rattle.log_format.specs.Accepts.{AcceptsIn, RejectsIn}
use Rattle.log_format.specs.Refused.{LogRefused}
use Rattle.log_format.specs.Text.{IsLog, log_text}
use Rattle.cert_checker.specs.declared.fault.CheckFault.{CheckFault}
use Rattle.cert_checker.specs.declared.fault.CheckFault.TheVariants.{Stp, Log, NoMemory}
use Rattle.cert_checker.specs.declared.verdict.Verdict.{Verdict}
use Rattle.cert_checker.specs.declared.verdict.Checked.{Checked}
use Rattle.cert_checker.specs.Verdict.{verdict_of}

-- the bytes are the text of this log
pub record IsTextOf (bytes : List ℕ) (log : log_type.Log) : Type 0 where
  pub is_log : IsLog log
  pub text : bytes ≡ log_text log

-- the bytes are the text of a log that is accepted, and this is its verdict
abbrev pub IsAcceptedTextIn : Problem → List ℕ → Verdict → Type 0
IsAcceptedTextIn p bytes verdict = (log : log_type.Log) × IsTextOf bytes log × AcceptsIn p log × (verdict ≡ verdict_of log.claim)

-- the bytes are the text of no log for this fault, or of one that is rejected for it
abbrev pub IsWrongTextIn : Problem → List ℕ → ℕ → Kind → Type 0
IsWrongTextIn p bytes line kind = LogRefused bytes line kind ⊎ ((log : log_type.Log) × IsTextOf bytes log × RejectsIn p log line kind)

-- the same of an instance
abbrev pub IsAcceptedText : Network → List ℕ → Verdict → Type 0
IsAcceptedText I bytes verdict = IsAcceptedTextIn (plain I) bytes verdict

abbrev pub IsWrongText : Network → List ℕ → ℕ → Kind → Type 0
IsWrongText I bytes line kind = IsWrongTextIn (plain I) bytes line kind

-- why this is answered: the file is read at this scale and the log is the text of one that is accepted; or the first fault of file, text and judgement
abbrev pub IsAnswer : List ℕ → List ℕ → Result Checked CheckFault → Type 0
IsAnswer stp bytes (Ok checked) = (I : Network) × Reads stp I checked.scale × IsAcceptedText I bytes checked.verdict
IsAnswer stp bytes (Err (Stp f)) = Refused stp f.line f.reason
IsAnswer stp bytes (Err (Log f)) = (I : Network) × (scale : Scale) × Reads stp I scale × IsWrongText I bytes f.line f.kind
IsAnswer stp bytes (Err NoMemory) = Unit {0}

-- the same where the file is read so as a problem, and refused so
abbrev pub IsAnswerBy : (Problem → Scale → Type 0) → (ℕ → Reason → Type 0) → List ℕ → Result Checked CheckFault → Type 0
IsAnswerBy Reading Refusal bytes (Ok checked) = (p : Problem) × Reading p checked.scale × IsAcceptedTextIn p bytes checked.verdict
IsAnswerBy Reading Refusal bytes (Err (Stp f)) = Refusal f.line f.reason
IsAnswerBy Reading Refusal bytes (Err (Log f)) = (p : Problem) × (scale : Scale) × Reading p scale × IsWrongTextIn p bytes f.line f.kind
IsAnswerBy Reading Refusal bytes (Err NoMemory) = Unit {0}

-- why this is answered of a file of either kind
abbrev pub IsFileAnswer : List ℕ → List ℕ → Result Checked CheckFault → Type 0
IsFileAnswer file bytes result = IsAnswerBy (ReadsFile file) (RefusedFile file) bytes result

-- this is answered, unless memory ran out
abbrev pub Answers : Result Checked CheckFault → Result Checked CheckFault → Type 0
Answers result wanted = (result ≡ wanted) ⊎ (result ≡ Err NoMemory)

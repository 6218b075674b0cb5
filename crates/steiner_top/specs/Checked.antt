-- How a file and a log are answered that are to be checked: by the one answer that they have.
use Rattle.std.specs.Prelude.{◌≡◌, ◌≢◌, ℕ, ◌^◌, ◌≤◌, List, length, Option, Some, Result, Err}
use Rattle.std.specs.Io.KnownBytes.{append_known}
use Rattle.cert_checker.specs.declared.fault.CheckFault.{CheckFault}
use Rattle.cert_checker.specs.declared.fault.CheckFault.TheVariants.{NoMemory}
use Rattle.cert_checker.specs.declared.verdict.Checked.{Checked}
use Rattle.cert_checker.specs.Checking.{IsFileAnswer}
use Rattle.command_line.specs.Words.{Command, CheckWords, check}
use Rattle.steiner_top.specs.declared.status.Status.{Status}
use Rattle.steiner_top.specs.Answer.{IsLineOf}
use Rattle.steiner_top.specs.Causes.{Texts}

-- the run ended with the status of this answer, and its line was sent
abbrev pub Gives : Status → Option (List ℕ) → Option (List ℕ) → Result Checked CheckFault → Type 0
Gives status taken now answer = (line : List ℕ) × IsLineOf answer status line × (now ≡ append_known taken line)

-- an answer was given that is right of the file and the log, and each that is right is the one that was given
pub record ChecksExactly (stp log : List ℕ) (status : Status) (taken now : Option (List ℕ)) : Type 0 where
  pub some : (answer : Result Checked CheckFault) × IsFileAnswer stp log answer × Gives status taken now answer
  pub each : (answer : Result Checked CheckFault) → IsFileAnswer stp log answer → answer ≢ Err NoMemory → Gives status taken now answer

-- so it is where the words ask for it and both texts are known, short enough and loaded
abbrev pub ChecksBothWays : Option Command → Texts → Status → Option (List ℕ) → Option (List ℕ) → Type 0
ChecksBothWays command texts status taken now = (w : CheckWords) (stp log : List ℕ) → command ≡ Some (check w) → texts w.file ≡ Some stp → texts w.log_name ≡ Some log
    → length stp ≤ 2 ^ 34 → length log ≤ 2 ^ 34 → ChecksExactly stp log status taken now

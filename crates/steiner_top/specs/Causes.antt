-- Why a run ends as it does, and what it has to send then.
use Rattle.std.specs.Prelude.{◌≡◌, ◌≢◌, ◌⊎◌, ℕ, ◌^◌, ◌<◌, ◌≤◌, List, [], ◌∷◌, ◌++◌, length, All, Option, Some, None, IfSome}
use Rattle.st_edge.specs.declared.shelf.LoadFault.{LoadFault}
use Rattle.st_edge.specs.declared.shelf.LoadFault.TheVariants as load
use Rattle.st_edge.specs.declared.shelf.SaveFault.{SaveFault}
use Rattle.st_edge.specs.declared.shelf.SaveFault.TheVariants as save
use Rattle.st_edge.specs.Shelf.{AsksFor, SameTexts, SameOtherTexts}
use Rattle.st_edge.specs.Sink.{TakesFront}
use Rattle.log_format.specs.Text.{log_text}
use Rattle.command_line.specs.declared.parse.WordFault.{WordFault}
use Rattle.command_line.specs.declared.parse.WordFault.TheVariants as word
use Rattle.command_line.specs.Words.{Command, SolveWords, CheckWords, FewWords, ResumeWords, VerifyWords, solve, check, gen, trial, few, verify, resume}
use Rattle.steiner_top.specs.declared.outcome.Outcome.{Outcome}
use Rattle.steiner_top.specs.declared.status.Status.{Status}
use Rattle.steiner_top.specs.declared.status.Status.TheVariants.{Usage, ReadFault, WriteFault, NoMemory, TooLong}
use Rattle.steiner_top.specs.Answer.{SolveAnswer, CheckAnswer}
use Rattle.steiner_top.specs.Counted.{FewAnswer}
use Rattle.steiner_top.specs.Drawn.{IsDrawn, IsTried}
use Rattle.steiner_top.specs.Outcome.{certificate_of}
use Rattle.steiner_top.specs.Output.{line_of}
use Rattle.steiner_top.specs.Resumed.{ResumeAnswer}
use Rattle.steiner_top.specs.Verified.{VerifyAnswer}

-- the text under each name, as far as the shelf tells
abbrev pub Texts : Type 0
Texts = List ℕ → Option (List ℕ)

abbrev pub status_of_words : WordFault → Status
status_of_words word.Usage = Usage
status_of_words word.NoMemory = NoMemory

abbrev pub status_of_load : LoadFault → Status
status_of_load load.Failed = ReadFault
status_of_load load.TooLong = TooLong
status_of_load load.NoMemory = NoMemory

abbrev pub status_of_save : SaveFault → Status
status_of_save save.Failed = WriteFault
status_of_save save.NoMemory = NoMemory

-- the bytes that a shelf loaded: those that it tells, if it tells any, and not too many
pub record IsLoaded (known : Option (List ℕ)) (bytes : List ℕ) : Type 0 where
  pub same : IfSome known (λ t. bytes ≡ t)
  pub short : length bytes ≤ 2 ^ 34

-- one of these names has a text that is too long, where the shelf tells it
abbrev pub IsTooLong : List (List ℕ) → Texts → Type 0
IsTooLong [] texts = ⊥
IsTooLong (name ∷ names) texts = IfSome (texts name) (λ text. 2 ^ 34 < length text) ⊎ IsTooLong names texts

-- some name is there
abbrev pub IsNamed : List (List ℕ) → Type 0
IsNamed [] = ⊥
IsNamed (name ∷ names) = Unit {0}

-- why there is no answer to the texts under these names: a load or memory failed, or one of them is too long
abbrev pub IsStopped : List (List ℕ) → Texts → Status → Type 0
IsStopped names texts ReadFault = IsNamed names
IsStopped names texts NoMemory = Unit {0}
IsStopped names texts TooLong = IsTooLong names texts
IsStopped names texts _ = ⊥

-- a load ended the run at one of these names: those before it were asked for and loaded, it was asked for last, and none after it was
pub record StopsAtOne (names : List (List ℕ)) (texts : Texts) (asked asked_now : Option (List (List ℕ))) (status : Status) : Type 0 where
  pub before : List (List ℕ)
  pub name : List ℕ
  pub after : List (List ℕ)
  pub split : names ≡ before ++ name ∷ after
  pub asks : AsksFor asked asked_now (before ++ name ∷ [])
  pub loaded : All (λ other. IfSome (texts other) (λ text. length text ≤ 2 ^ 34)) before
  pub long : status ≡ TooLong → IfSome (texts name) (λ text. 2 ^ 34 < length text)

-- where a load failed, or a text was too long, that ended the run
abbrev pub StopsAtLoad : List (List ℕ) → Texts → Option (List (List ℕ)) → Option (List (List ℕ)) → Status → Type 0
StopsAtLoad names texts asked asked_now status = (status ≡ ReadFault) ⊎ (status ≡ TooLong) → StopsAtOne names texts asked asked_now status

-- the file is loaded and answered
abbrev pub IsSolveAnswered : SolveWords → Texts → Status → Option Outcome → List ℕ → Type 0
IsSolveAnswered w texts status outcome sent = (bytes : List ℕ) × IsLoaded (texts w.file) bytes × SolveAnswer w bytes status outcome sent

-- the file and the log are loaded and answered
abbrev pub IsCheckAnswered : CheckWords → Texts → Status → Option Outcome → List ℕ → Type 0
IsCheckAnswered w texts status outcome sent = (stp log : List ℕ) × IsLoaded (texts w.file) stp × IsLoaded (texts w.log_name) log × CheckAnswer stp log status sent × (outcome ≡ None)

-- the file is loaded and answered with a best tree, or why not
abbrev pub IsFewAnswered : FewWords → Texts → Status → Option Outcome → List ℕ → Type 0
IsFewAnswered w texts status outcome sent = (bytes : List ℕ) × IsLoaded (texts w.file) bytes × FewAnswer w bytes status sent × (outcome ≡ None)

-- the file and the solution are loaded and answered
abbrev pub IsVerifyAnswered : VerifyWords → Texts → Status → Option Outcome → List ℕ → Type 0
IsVerifyAnswered w texts status outcome sent = (stp solution : List ℕ) × IsLoaded (texts w.file) stp × IsLoaded (texts w.solution) solution × VerifyAnswer stp solution status sent × (outcome ≡ None)

-- the file and the log are loaded and answered
abbrev pub IsResumeAnswered : ResumeWords → Texts → Status → Option Outcome → List ℕ → Type 0
IsResumeAnswered w texts status outcome sent = (stp log : List ℕ) × IsLoaded (texts w.file) stp × IsLoaded (texts w.log_name) log × ResumeAnswer w stp log status outcome sent

-- what the words ask for is answered
abbrev pub IsAnswered : Option Command → Texts → Status → Option Outcome → List ℕ → Type 0
IsAnswered None texts status outcome sent = ⊥
IsAnswered (Some (solve w)) texts status outcome sent = IsSolveAnswered w texts status outcome sent
IsAnswered (Some (check w)) texts status outcome sent = IsCheckAnswered w texts status outcome sent
IsAnswered (Some (gen w)) texts status outcome sent = IsDrawn w status outcome sent
IsAnswered (Some (trial w)) texts status outcome sent = IsTried w status outcome sent
IsAnswered (Some (few w)) texts status outcome sent = IsFewAnswered w texts status outcome sent
IsAnswered (Some (verify w)) texts status outcome sent = IsVerifyAnswered w texts status outcome sent
IsAnswered (Some (resume w)) texts status outcome sent = IsResumeAnswered w texts status outcome sent

-- the names of the texts that the words ask for
abbrev pub names_of : Command → List (List ℕ)
names_of (solve w) = w.file ∷ []
names_of (check w) = w.file ∷ w.log_name ∷ []
names_of (gen w) = []
names_of (trial w) = []
names_of (few w) = w.file ∷ []
names_of (verify w) = w.file ∷ w.solution ∷ []
names_of (resume w) = w.file ∷ w.log_name ∷ []

-- the names of the texts that are loaded, in this order
abbrev pub loads_of : Option Command → List (List ℕ)
loads_of None = []
loads_of (Some command) = names_of command

-- what the words ask for has no answer, or they ask for nothing
abbrev pub IsUnanswered : Option Command → Texts → Status → Type 0
IsUnanswered None texts status = (status ≡ Usage) ⊎ (status ≡ NoMemory)
IsUnanswered (Some command) texts status = IsStopped (names_of command) texts status

-- why a run ends with this status and outcome, and what it has to send
abbrev pub EndsWith : Option Command → Texts → Status → Option Outcome → List ℕ → Type 0
EndsWith command texts status outcome sent = IsAnswered command texts status outcome sent ⊎ (IsUnanswered command texts status × (outcome ≡ None) × (sent ≡ line_of status))

-- where a log is saved, if the words ask for one
abbrev pub log_name_of : Option Command → Option (List ℕ)
log_name_of None = None
log_name_of (Some (solve w)) = w.log_name
log_name_of (Some (check w)) = None
log_name_of (Some (gen w)) = None
log_name_of (Some (trial w)) = None
log_name_of (Some (few w)) = None
log_name_of (Some (verify w)) = None
log_name_of (Some (resume w)) = w.save_name

-- the certificate's text stands under this name, if there is one
abbrev pub StandsUnder : Option (List ℕ) → Texts → Option Outcome → Type 0
StandsUnder name texts outcome = IfSome outcome (λ o. IfSome name (λ n. IfSome (texts n) (λ text. text ≡ log_text (certificate_of o))))

-- so it does under the log's name
abbrev pub IsSaved : Option Command → Texts → Option Outcome → Type 0
IsSaved command texts outcome = StandsUnder (log_name_of command) texts outcome

-- each text but that of this name is as it was
abbrev pub SameBut : Option (List ℕ) → Texts → Texts → Type 0
SameBut None old new = SameTexts old new
SameBut (Some name) old new = SameOtherTexts name old new

-- a front of what was to be sent was taken, and not all; the log of an outcome stands, and without one each text is as it was
pub record IsFrontTaken (command : Option Command) (old new : Texts) (outcome : Option Outcome) (sent : List ℕ) (taken now : Option (List ℕ)) : Type 0 where
  pub front : TakesFront taken now sent
  pub saved : IsSaved command new outcome
  pub kept : outcome ≡ None → SameTexts old new

-- an answer was made and couldn't be handed out: a save failed and nothing of it was taken, or a front of it was
abbrev pub IsCutShort : Option Command → Texts → Texts → Type 0 → Option (List ℕ) → Option (List ℕ) → Type 0
IsCutShort command old new failed taken now = (status : Status) × (outcome : Option Outcome) × (sent : List ℕ)
    × EndsWith command old status outcome sent × ((failed × (now ≡ taken)) ⊎ IsFrontTaken command old new outcome sent taken now)

-- the shelf keeps each text, but for that of a log that was saved or couldn't be
abbrev pub KeepsTexts : Option Command → Status → Option Outcome → Texts → Texts → Type 0
KeepsTexts command status outcome old new = SameBut (log_name_of command) old new × (outcome ≡ None → status ≢ WriteFault → SameTexts old new)

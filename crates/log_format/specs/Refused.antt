-- Where the text of no log goes wrong: the first line that may not stand at its place, or an end that comes too early.
use Rattle.std.specs.Prelude.{◌≡◌, ◌≢◌, ℕ, ◌+◌, ◌⊎◌, List, [], ◌∷◌, ◌++◌, length}
use Rattle.log_format.specs.declared.kind.Kind.{Kind}
use Rattle.log_format.specs.declared.kind.Kind.TheVariants.{BadLine, EndsEarly}
use Rattle.log_format.specs.declared.fault.ReadError.{ReadError}
use Rattle.log_format.specs.declared.fault.ReadError.TheVariants.{Fault, NoMemory}
use Rattle.log_format.specs.Text.{AreWhole, Begins, whole_lines, unfinished}

-- some log begins with the whole lines before this one, and none with this one too
pub record IsBadLine (bytes : List ℕ) (line : ℕ) : Type 0 where
  pub before : List (List ℕ)
  pub bad : List ℕ
  pub after : List (List ℕ)
  pub lines : whole_lines bytes ≡ before ++ bad ∷ after
  pub place : line ≡ length before + 1
  pub begun : Begins before
  pub stops : ¬ (Begins (before ++ bad ∷ []))

-- the whole lines are all of a log, and bytes that end no line stand after them
pub record HasBytesAfter (bytes : List ℕ) (line : ℕ) : Type 0 where
  pub whole : AreWhole (whole_lines bytes)
  pub after : unfinished bytes ≢ []
  pub place : line ≡ length (whole_lines bytes) + 1

-- some log begins with the whole lines, and they are all of none
pub record IsCutShort (bytes : List ℕ) (line : ℕ) : Type 0 where
  pub begun : Begins (whole_lines bytes)
  pub part : ¬ (AreWhole (whole_lines bytes))
  pub place : line ≡ length (whole_lines bytes) + 1

-- the line and the kind of what is wrong with the text of no log
abbrev pub LogRefused : List ℕ → ℕ → Kind → Type 0
LogRefused bytes line BadLine = IsBadLine bytes line ⊎ HasBytesAfter bytes line
LogRefused bytes line EndsEarly = IsCutShort bytes line
LogRefused bytes line _ = ⊥

-- what is wrong stands there, where it isn't memory
abbrev pub IsRefusedBy : List ℕ → ReadError → Type 0
IsRefusedBy bytes (Fault f) = LogRefused bytes f.line f.kind
IsRefusedBy bytes NoMemory = Unit {0}

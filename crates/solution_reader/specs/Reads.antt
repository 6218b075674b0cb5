-- The claim that a text makes, and why a text makes none.
use Rattle.std.specs.Prelude.{◌≡◌, ℕ, ◌+◌, ◌⊎◌, List, [], ◌∷◌, ◌++◌, length, Option, Some, None}
use Rattle.stp_reader.specs.Lines.{word_lines}
use Rattle.solution_reader.specs.declared.reason.SolReason.{SolReason}
use Rattle.solution_reader.specs.declared.fault.SolError.{SolError}
use Rattle.solution_reader.specs.declared.fault.SolError.TheVariants.{Fault, NoMemory}
use Rattle.solution_reader.specs.Place.{Whole, whole_of, Place, at_header, outside, after_end, after, after_all}
use Rattle.solution_reader.specs.Reasons.{reason, end_reason}
use Rattle.solution_reader.specs.Claim.{Claim, IsClaimOf}

-- no line of these has a reason, the first of them standing at this place
abbrev pub AllRight : Place → List (List (List ℕ)) → Type 0
AllRight place [] = Unit {0}
AllRight place (line ∷ lines) = (reason place line ≡ None) × AllRight (after place line) lines

-- what a whole text states, at the place after it
abbrev pub whole_at : Place → Option Whole
whole_at (outside got) = whole_of got got.final
whole_at (after_end w) = Some w
whole_at _ = None

-- no line has a reason, and the text ends where all is stated: this
pub record IsRead (lines : List (List (List ℕ))) (w : Whole) : Type 0 where
  pub right : AllRight at_header lines
  pub whole : whole_at (after_all at_header lines) ≡ Some w

-- the bytes are a text that makes this claim
abbrev pub ReadsSolution : List ℕ → Claim → Type 0
ReadsSolution bytes claim = (w : Whole) × IsRead (word_lines bytes) w × IsClaimOf w claim

-- a line is the first that has a reason, which is this; lines are numbered from 1
pub record IsFirstBad (lines : List (List (List ℕ))) (line : ℕ) (r : SolReason) : Type 0 where
  pub before : List (List (List ℕ))
  pub bad : List (List ℕ)
  pub others : List (List (List ℕ))
  pub split : lines ≡ before ++ bad ∷ others
  pub number : line ≡ length before + 1
  pub right : AllRight at_header before
  pub why : reason (after_all at_header before) bad ≡ Some r

-- no line has a reason, but the text may not end after the last, for this reason; it counts as one line more
pub record IsBadEnd (lines : List (List (List ℕ))) (line : ℕ) (r : SolReason) : Type 0 where
  pub number : line ≡ length lines + 1
  pub right : AllRight at_header lines
  pub why : end_reason (after_all at_header lines) ≡ Some r

-- the bytes make no claim: the first line with a reason, and that reason
abbrev pub RefusedSolution : List ℕ → ℕ → SolReason → Type 0
RefusedSolution bytes line r = IsFirstBad (word_lines bytes) line r ⊎ IsBadEnd (word_lines bytes) line r

-- what was answered is that fault, where it isn't memory
abbrev pub IsRefusedBy : List ℕ → SolError → Type 0
IsRefusedBy bytes (Fault f) = RefusedSolution bytes f.line f.reason
IsRefusedBy bytes NoMemory = Unit {0}

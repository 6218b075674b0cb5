-- The laws of logs and their texts.
use Rattle.std.specs.Prelude.{◌≡◌, ◌≢◌, ◌↔◌, ℕ, List}
use Rattle.log_format.specs.declared.kind.Kind.{Kind}
use Rattle.log_format.specs.declared.log.Log.{Log}
use Rattle.log_format.specs.declared.log.Version.TheVariants.{Two}
use Rattle.st_model.specs.Network.{Network}
use Rattle.arborescence.specs.Problem.{Problem, plain, IsProblem}
use Rattle.log_format.specs.Accepts.{Accepts, AcceptsIn, Rejects, RejectsIn}
use Rattle.log_format.specs.Text.{IsLog, log_text}
use Rattle.log_format.specs.Refused.{LogRefused}

-- no two logs have one text
abbrev pub OneSpelling : Type 0
OneSpelling = (a b : Log) → IsLog a → IsLog b → log_text a ≡ log_text b → a ≡ b

-- the bytes are the text of no log
abbrev pub IsNoText : List ℕ → Type 0
IsNoText bytes = (log : Log) → IsLog log → bytes ≢ log_text log

-- what is the text of a log is not refused, and what is not, is refused at one line and as one kind
pub record RefusedExactly (bytes : List ℕ) : Type 0 where
  pub no_text : (line : ℕ) (kind : Kind) → LogRefused bytes line kind → IsNoText bytes
  pub some_fault : IsNoText bytes → (line : ℕ) × (kind : Kind) × LogRefused bytes line kind
  pub one_fault : (line line' : ℕ) (kind kind' : Kind) → LogRefused bytes line kind → LogRefused bytes line' kind' → (line ≡ line') × (kind ≡ kind')

-- the log isn't both accepted and rejected, and of what is a problem not neither; where it is rejected, it is at one line and as one kind
pub record RejectedExactlyIn (p : Problem) (log : Log) : Type 0 where
  pub not_accepted : (line : ℕ) (kind : Kind) → RejectsIn p log line kind → AcceptsIn p log → ⊥
  pub one_fault : (line line' : ℕ) (kind kind' : Kind) → RejectsIn p log line kind → RejectsIn p log line' kind' → (line ≡ line') × (kind ≡ kind')
  pub no_escape : IsProblem p → IsLog log → (AcceptsIn p log → ⊥) → ((line : ℕ) (kind : Kind) → RejectsIn p log line kind → ⊥) → ⊥

-- the same in a network
abbrev pub RejectedExactly : Network → Log → Type 0
RejectedExactly I log = RejectedExactlyIn (plain I) log

-- the same log in version 2
abbrev pub migrated : Log → Log
migrated log = record log { version = Two }

-- in version 2 the log is accepted, and rejected, just as before, and it is a log again
pub record MigratedIsTheSame (I : Network) (log : Log) : Type 0 where
  pub accepted : Accepts I log ↔ Accepts I (migrated log)
  pub rejected : (line : ℕ) (kind : Kind) → Rejects I log line kind ↔ Rejects I (migrated log) line kind
  pub is_log : IsLog log → IsLog (migrated log)

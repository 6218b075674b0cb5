-- The words of the command line, after the program's name, and the command that they mean.
use Rattle.std.specs.Prelude.{ℕ, ◌-◌, Bool, true, false, ◌==◌, List, [], ◌∷◌, codes, Option, Some, None, if◌then◌else◌}
use Rattle.std.specs.Str.{bytes_eq}
use Rattle.clap.specs.Walk.{Row, Rule, Text, first_of, is_empty}
use Rattle.clap.specs.Simple.{App, new_app, new_rule, on_top, subcommand_of, with_rule, with_subcommand}
use Rattle.clap.specs.Faults.{fault_of}
use Rattle.clap.specs.declared.builder.action.ArgAction.TheVariants.{SetTrue}
use Rattle.plain_text.specs.Numbers.{number}
use Rattle.plain_text.specs.Steps.{◌>>=◌}

-- ---- what may stand after the program's name, for clap

-- a word that has to stand in its place
abbrev pub place : Text → Rule
place id = record (new_rule id) { required = true }

-- an option with a value after it, at most once
abbrev pub option : Text → Rule
option name = record (new_rule name) { long = Some name }

-- an option with no value, at most once
abbrev pub flag : Text → Rule
flag name = record (new_rule name) { long = Some name; action = Some SetTrue }

-- `solve FILE [--workers W] [--nodes N] [--log NAME] [--plain] [--links]`
abbrev pub solve_app : App
solve_app = with_rule (with_rule (with_rule (with_rule (with_rule (with_rule (new_app (codes "solve")) (place (codes "FILE"))) (option (codes "workers"))) (option (codes "nodes"))) (option (codes "log"))) (flag (codes "plain"))) (flag (codes "links"))

-- `check FILE LOG`
abbrev pub check_app : App
check_app = with_rule (with_rule (new_app (codes "check")) (place (codes "FILE"))) (place (codes "LOG"))

-- a command with `SEED N M T` after it
abbrev pub draw_app : App → App
draw_app app = with_rule (with_rule (with_rule (with_rule app (place (codes "SEED"))) (place (codes "N"))) (place (codes "M"))) (place (codes "T"))

-- `gen SEED N M T [--prizes]`
abbrev pub gen_app : App
gen_app = with_rule (draw_app (new_app (codes "gen"))) (flag (codes "prizes"))

-- `trial SEED N M T [--workers W]`
abbrev pub trial_app : App
trial_app = with_rule (draw_app (new_app (codes "trial"))) (option (codes "workers"))

-- `few FILE`
abbrev pub few_app : App
few_app = with_rule (new_app (codes "few")) (place (codes "FILE"))

-- `verify FILE SOLUTION`
abbrev pub verify_app : App
verify_app = with_rule (with_rule (new_app (codes "verify")) (place (codes "FILE"))) (place (codes "SOLUTION"))

-- `resume FILE LOG [--workers W] [--nodes N] [--log NAME]`
abbrev pub resume_app : App
resume_app = with_rule (with_rule (with_rule (with_rule (with_rule (new_app (codes "resume")) (place (codes "FILE"))) (place (codes "LOG"))) (option (codes "workers"))) (option (codes "nodes"))) (option (codes "log"))

-- the seven commands, of which one stands
abbrev pub no_command : App
no_command = on_top (λ s. record s { no_binary_name = true }) (new_app (codes "steiner"))

abbrev pub program : App
program = with_subcommand (with_subcommand (with_subcommand (with_subcommand (with_subcommand (with_subcommand (with_subcommand no_command solve_app.top) check_app.top) gen_app.top) trial_app.top) few_app.top) verify_app.top) resume_app.top

-- ---- what the words mean

-- a file to be solved by so many workers and at most so many nodes; where a log is kept; whether the graph is left as it is; and whether nodes may
-- be split at links
pub record SolveWords : Type 0 where
  pub file : Text
  pub workers : ℕ
  pub nodes : ℕ
  pub log_name : Option Text
  pub plain : Bool
  pub links : Bool

-- a file, and a log that is to be checked
pub record CheckWords : Type 0 where
  pub file : Text
  pub log_name : Text

-- the numbers that say which instance is drawn: what the draws begin with, the vertices, the links and the chosen vertices
pub record DrawWords : Type 0 where
  pub seed : ℕ
  pub n : ℕ
  pub m : ℕ
  pub t : ℕ

-- an instance to be drawn, and whether the chosen vertices pay and aren't required
pub record GenWords : Type 0 where
  pub drawn : DrawWords
  pub prizes : Bool

-- an instance to be drawn and solved, by so many workers
pub record TrialWords : Type 0 where
  pub drawn : DrawWords
  pub workers : ℕ

-- a file whose best tree is wanted, where few vertices have to be reached
pub record FewWords : Type 0 where
  pub file : Text

-- a file, and a solution that is to be judged
pub record VerifyWords : Type 0 where
  pub file : Text
  pub solution : Text

-- a file, and a log of it that is to be gone on from, by so many workers and at most so many nodes; and where the new log is kept
pub record ResumeWords : Type 0 where
  pub file : Text
  pub log_name : Text
  pub workers : ℕ
  pub nodes : ℕ
  pub save_name : Option Text

pub data Command : Type 0 where
  solve : SolveWords → Command
  check : CheckWords → Command
  gen : GenWords → Command
  trial : TrialWords → Command
  few : FewWords → Command
  verify : VerifyWords → Command
  resume : ResumeWords → Command

-- a hyphen stands in front
abbrev pub is_hyphened : Text → Bool
is_hyphened [] = false
is_hyphened (b ∷ bs) = b == 45

-- a name is a word that is there and begins with no hyphen
abbrev pub name_of : Option Text → Option Text
name_of None = None
name_of (Some text) = if is_hyphened text then None else Some text

-- a name that may be missing
abbrev pub optional_name_of : Option Text → Option (Option Text)
optional_name_of None = Some None
optional_name_of (Some text) = if is_hyphened text then None else Some (Some text)

-- a number from low to high, with what stands for it where it is missing
abbrev pub number_of : ℕ → ℕ → ℕ → Option Text → Option ℕ
number_of missing low high None = Some missing
number_of missing low high (Some text) = number low high text

-- a number from low to high that has to be there
abbrev pub needed_number_of : ℕ → ℕ → Option Text → Option ℕ
needed_number_of low high None = None
needed_number_of low high (Some text) = number low high text

-- whether a flag was set
abbrev pub is_set : Option Text → Bool
is_set None = false
is_set (Some text) = bytes_eq text (codes "true")

-- what the words after `solve` mean
unfoldable pub solve_of : List Row → Option SolveWords
solve_of rows = do
  file ← name_of (first_of (codes "FILE") rows)
  workers ← number_of 1 1 64 (first_of (codes "workers") rows)
  nodes ← number_of 1000000 0 1000000 (first_of (codes "nodes") rows)
  log ← optional_name_of (first_of (codes "log") rows)
  Some (record { file = file; workers = workers; nodes = nodes; log_name = log; plain = is_set (first_of (codes "plain") rows); links = is_set (first_of (codes "links") rows) })

-- what the words after `check` mean
unfoldable pub check_of : List Row → Option CheckWords
check_of rows = do
  file ← name_of (first_of (codes "FILE") rows)
  log ← name_of (first_of (codes "LOG") rows)
  Some (record { file = file; log_name = log })

-- which instance is drawn: a connected one takes n - 1 links at least
unfoldable pub draw_of : List Row → Option DrawWords
draw_of rows = do
  seed ← needed_number_of 1 2147483646 (first_of (codes "SEED") rows)
  n ← needed_number_of 1 1000000 (first_of (codes "N") rows)
  m ← needed_number_of (n - 1) 4000000 (first_of (codes "M") rows)
  t ← needed_number_of 1 n (first_of (codes "T") rows)
  Some (record { seed = seed; n = n; m = m; t = t })

-- what the words after `gen` mean
unfoldable pub gen_of : List Row → Option GenWords
gen_of rows = do
  drawn ← draw_of rows
  Some (record { drawn = drawn; prizes = is_set (first_of (codes "prizes") rows) })

-- what the words after `trial` mean
unfoldable pub trial_of : List Row → Option TrialWords
trial_of rows = do
  drawn ← draw_of rows
  workers ← number_of 1 1 64 (first_of (codes "workers") rows)
  Some (record { drawn = drawn; workers = workers })

-- what the words after `few` mean
unfoldable pub few_of : List Row → Option FewWords
few_of rows = do
  file ← name_of (first_of (codes "FILE") rows)
  Some (record { file = file })

-- what the words after `verify` mean
unfoldable pub verify_of : List Row → Option VerifyWords
verify_of rows = do
  file ← name_of (first_of (codes "FILE") rows)
  solution ← name_of (first_of (codes "SOLUTION") rows)
  Some (record { file = file; solution = solution })

-- what the words after `resume` mean: LOG is the place, and log the option
unfoldable pub resume_of : List Row → Option ResumeWords
resume_of rows = do
  file ← name_of (first_of (codes "FILE") rows)
  log ← name_of (first_of (codes "LOG") rows)
  workers ← number_of 1 1 64 (first_of (codes "workers") rows)
  nodes ← number_of 1000000 0 1000000 (first_of (codes "nodes") rows)
  save ← optional_name_of (first_of (codes "log") rows)
  Some (record { file = file; log_name = log; workers = workers; nodes = nodes; save_name = save })

-- what a subcommand with these arguments means
abbrev pub meant : Text × List Row → Option Command
meant (name, rows) =
    if bytes_eq name (codes "solve") then (solve_of rows >>= λ words. Some (solve words)) else (
    if bytes_eq name (codes "check") then (check_of rows >>= λ words. Some (check words)) else (
    if bytes_eq name (codes "gen") then (gen_of rows >>= λ words. Some (gen words)) else (
    if bytes_eq name (codes "trial") then (trial_of rows >>= λ words. Some (trial words)) else (
    if bytes_eq name (codes "few") then (few_of rows >>= λ words. Some (few words)) else (
    if bytes_eq name (codes "verify") then (verify_of rows >>= λ words. Some (verify words)) else (
    if bytes_eq name (codes "resume") then (resume_of rows >>= λ words. Some (resume words)) else None))))))

-- what the words mean: clap takes them for the program, and the names and numbers are in form
unfoldable pub command_of : List Text → Option Command
command_of words = if is_empty (fault_of program words) then (subcommand_of program words >>= meant) else None

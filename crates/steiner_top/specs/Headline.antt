-- The main promise of a run: where no device and no memory fails, the words and the texts decide how it ends, and what is sent and saved.
use Rattle.std.specs.Prelude.{◌≡◌, ◌≢◌, ◌↔◌, ◌⊎◌, ℕ, ◌^◌, ◌<◌, ◌≤◌, ◌==◌, if◌then◌else◌, List, length, Option, Some, None, Ok, IfSome, true}
use Rattle.std.specs.Io.KnownBytes.{append_known}
use Rattle.st_edge.specs.Faults.{Rose}
use Rattle.amounts.specs.declared.scale.Scale.{Scale}
use Rattle.st_model.specs.declared.tree.Tree.{Tree}
use Rattle.st_model.specs.Network.{Network}
use Rattle.st_model.specs.Arborescence.{IsTree, IsTreeIn}
use Rattle.arborescence.specs.DiNetwork.{DiNetwork, di_ground}
use Rattle.arborescence.specs.Problem.{Problem, plain, directed, ground_of}
use Rattle.stp_reader.specs.declared.reason.Reason.{Reason}
use Rattle.stp_reader.specs.Reads.{ReadsFile, RefusedFile as FileRefused}
use Rattle.log_format.specs.declared.log.Log.{Log}
use Rattle.log_format.specs.Text.{log_text}
use Rattle.search_core.specs.declared.gathered.Searched.{Searched}
use Rattle.dimacs_writer.specs.Solution.{IsSolutionText, IsSolutionTextIn}
use Rattle.directed_search.specs.Found.{IsDiFound}
use Rattle.cert_checker.specs.declared.verdict.Checked.{Checked}
use Rattle.cert_checker.specs.declared.verdict.Verdict.TheVariants as verdict
use Rattle.cert_checker.specs.Checking.{IsFileAnswer}
use Rattle.command_line.specs.Words.{Command, SolveWords, CheckWords, GenWords, TrialWords, FewWords, VerifyWords, ResumeWords, solve, check, gen, trial, few, verify, resume}
use Rattle.steiner_top.specs.declared.outcome.Outcome.{Outcome}
use Rattle.steiner_top.specs.declared.outcome.Outcome.TheVariants.{Found, Directed}
use Rattle.steiner_top.specs.declared.status.Status.{Status}
use Rattle.steiner_top.specs.declared.status.Status.TheVariants.{Optimal, Usage, Budget, Infeasible, RefusedFile, NoMemory, TooLong}
use Rattle.steiner_top.specs.Causes.{Texts}
use Rattle.steiner_top.specs.Counted.{CountsFile}
use Rattle.steiner_top.specs.Drawn.{IsDrawn, IsTried}
use Rattle.steiner_top.specs.Outcome.{IsFound}
use Rattle.steiner_top.specs.Output.{status_of_verdict, verdict_line}
use Rattle.steiner_top.specs.Resumed.{ResumesLog}
use Rattle.steiner_top.specs.Verified.{VerifiesSolution}

-- how many loads, saves and writes have failed
pub record Faults : Type 0 where
  pub reads : ℕ
  pub saves : ℕ
  pub writes : ℕ

-- no load, save or write failed from one count to the other, and memory sufficed
pub record NothingFails (before after : Faults) (status : Status) : Type 0 where
  pub loaded : Rose before.reads after.reads → ⊥
  pub saved : Rose before.saves after.saves → ⊥
  pub sent : Rose before.writes after.writes → ⊥
  pub memory : status ≢ NoMemory

-- the answer to a file whose instance has a tree: the text of a tree, with its cost and a bound on the cost of all trees in the file's unit, and the certificate's text under the log's name.
-- The bound is the cost unless the whole budget was spent, and a check accepts the certificate with these numbers.
pub record IsSolved (w : SolveWords) (bytes : List ℕ) (I : Network) (scale : Scale) (status : Status) (outcome : Option Outcome) (texts : Texts) (taken now : Option (List ℕ)) : Type 0 where
  pub tree : Tree
  pub primal : ℕ
  pub dual : ℕ
  pub expanded : ℕ
  pub searches : List Searched
  pub certificate : Log
  pub sent : List ℕ
  pub given : outcome ≡ Some (Found tree primal dual expanded searches certificate scale)
  pub found : IsFound w.nodes w.plain w.links I tree primal dual expanded searches certificate
  pub text : IsSolutionText w.file w.workers tree dual primal scale sent
  pub took : now ≡ append_known taken sent
  pub ends : ((status ≡ Optimal) × (dual ≡ primal)) ⊎ ((status ≡ Budget) × (dual < primal))
  -- the answer of a check on the file and the certificate's text: this cost, as the least one or with this bound
  pub checks : IsFileAnswer bytes (log_text certificate) (Ok (record { verdict = if dual == primal then verdict.Optimal primal else verdict.Bound dual primal; scale = scale }))
  pub log : IfSome w.log_name (λ name. IfSome (texts name) (λ text. text ≡ log_text certificate))

-- the same of a file whose directed instance has a tree
pub record IsDirectedSolved (w : SolveWords) (bytes : List ℕ) (D : DiNetwork) (scale : Scale) (status : Status) (outcome : Option Outcome) (texts : Texts) (taken now : Option (List ℕ)) : Type 0 where
  pub tree : Tree
  pub primal : ℕ
  pub dual : ℕ
  pub expanded : ℕ
  pub certificate : Log
  pub sent : List ℕ
  pub given : outcome ≡ Some (Directed tree primal dual expanded certificate scale)
  pub found : IsDiFound w.nodes D tree primal dual expanded certificate
  pub text : IsSolutionTextIn true w.file w.workers tree dual primal scale sent
  pub took : now ≡ append_known taken sent
  pub ends : ((status ≡ Optimal) × (dual ≡ primal)) ⊎ ((status ≡ Budget) × (dual < primal))
  pub checks : IsFileAnswer bytes (log_text certificate) (Ok (record { verdict = if dual == primal then verdict.Optimal primal else verdict.Bound dual primal; scale = scale }))
  pub log : IfSome w.log_name (λ name. IfSome (texts name) (λ text. text ≡ log_text certificate))

-- how a file of either kind is answered that is to be solved, and whose text is known
pub record SolvesFile (w : SolveWords) (bytes : List ℕ) (status : Status) (outcome : Option Outcome) (texts : Texts) (taken now : Option (List ℕ)) : Type 0 where
  pub too_long : (status ≡ TooLong) ↔ (2 ^ 34 < length bytes)
  pub refused : length bytes ≤ 2 ^ 34 → (status ≡ RefusedFile) ↔ ((line : ℕ) × (reason : Reason) × FileRefused bytes line reason)
  pub infeasible : (p : Problem) (scale : Scale) → ReadsFile bytes p scale → length bytes ≤ 2 ^ 34 → (status ≡ Infeasible) ↔ ((t : Tree) → IsTreeIn (ground_of p) t → ⊥)
  pub solved : (I : Network) (scale : Scale) (t : Tree) → ReadsFile bytes (plain I) scale → length bytes ≤ 2 ^ 34 → IsTree I t → IsSolved w bytes I scale status outcome texts taken now
  pub solved_directed : (D : DiNetwork) (scale : Scale) (t : Tree) → ReadsFile bytes (directed D) scale → length bytes ≤ 2 ^ 34 → IsTreeIn (di_ground D) t → IsDirectedSolved w bytes D scale status outcome texts taken now

-- how a file and a log are answered that are to be checked, and whose texts are known
pub record ChecksLog (stp log : List ℕ) (status : Status) (taken now : Option (List ℕ)) : Type 0 where
  pub too_long : (status ≡ TooLong) ↔ ((2 ^ 34 < length stp) ⊎ (2 ^ 34 < length log))
  pub verdict : (checked : Checked) → length stp ≤ 2 ^ 34 → length log ≤ 2 ^ 34 → IsFileAnswer stp log (Ok checked) → (status ≡ status_of_verdict checked.verdict) × (now ≡ append_known taken (verdict_line checked))

-- the answer was sent
abbrev pub Sends : (Status → Option Outcome → List ℕ → Type 0) → Status → Option Outcome → Option (List ℕ) → Option (List ℕ) → Type 0
Sends IsAnswer status outcome taken now = (sent : List ℕ) × IsAnswer status outcome sent × (now ≡ append_known taken sent)

-- the words and the texts that they name decide, where nothing fails
pub record Headline (command : Option Command) (old new : Texts) (before after : Faults) (status : Status) (outcome : Option Outcome) (taken now : Option (List ℕ)) : Type 0 where
  pub usage : NothingFails before after status → (status ≡ Usage) ↔ (command ≡ None)
  pub solves : (w : SolveWords) (bytes : List ℕ) → command ≡ Some (solve w) → old w.file ≡ Some bytes → NothingFails before after status → SolvesFile w bytes status outcome new taken now
  pub checks : (w : CheckWords) (stp log : List ℕ) → command ≡ Some (check w) → old w.file ≡ Some stp → old w.log_name ≡ Some log → NothingFails before after status → ChecksLog stp log status taken now
  pub draws : (w : GenWords) → command ≡ Some (gen w) → NothingFails before after status → Sends (IsDrawn w) status outcome taken now
  pub tries : (w : TrialWords) → command ≡ Some (trial w) → NothingFails before after status → Sends (IsTried w) status outcome taken now
  pub counts : (w : FewWords) (bytes : List ℕ) → command ≡ Some (few w) → old w.file ≡ Some bytes → NothingFails before after status → CountsFile w bytes status taken now
  pub verifies : (w : VerifyWords) (stp solution : List ℕ) → command ≡ Some (verify w) → old w.file ≡ Some stp → old w.solution ≡ Some solution → NothingFails before after status → VerifiesSolution stp solution status taken now
  pub resumes : (w : ResumeWords) (stp log : List ℕ) → command ≡ Some (resume w) → old w.file ≡ Some stp → old w.log_name ≡ Some log → NothingFails before after status → ResumesLog w stp log status outcome new taken now

-- What a file, or a file and a log, are answered with.
use Rattle.std.specs.Prelude.{◌≡◌, ◌≢◌, ℕ, ◌<◌, ◌==◌, if◌then◌else◌, List, Option, Some, None, Result, Ok, Err, IfOk, true}
use Rattle.amounts.specs.declared.scale.Scale.{Scale}
use Rattle.st_model.specs.declared.tree.Tree.{Tree}
use Rattle.st_model.specs.Network.{Network}
use Rattle.stp_reader.specs.declared.reason.Reason.{Reason}
use Rattle.arborescence.specs.DiNetwork.{DiNetwork}
use Rattle.arborescence.specs.Problem.{Problem, plain, directed}
use Rattle.stp_reader.specs.Reads.{ReadsFile, Refused, RefusedFile as FileRefused}
use Rattle.log_format.specs.declared.log.Log.{Log}
use Rattle.search_core.specs.declared.gathered.Searched.{Searched}
use Rattle.cert_checker.specs.declared.fault.CheckFault.{CheckFault}
use Rattle.cert_checker.specs.declared.fault.CheckFault.TheVariants as check
use Rattle.cert_checker.specs.declared.verdict.Checked.{Checked}
use Rattle.cert_checker.specs.Checking.{IsFileAnswer}
use Rattle.cert_checker.specs.Verdict.{ConcludesIn}
use Rattle.dimacs_writer.specs.Solution.{IsSolutionText, IsSolutionTextIn}
use Rattle.command_line.specs.Words.{SolveWords}
use Rattle.directed_search.specs.Found.{IsDiFound}
use Rattle.steiner_top.specs.declared.outcome.Outcome.{Outcome}
use Rattle.steiner_top.specs.declared.outcome.Outcome.TheVariants.{Found, Directed, NoTree}
use Rattle.steiner_top.specs.declared.status.Status.{Status}
use Rattle.steiner_top.specs.declared.status.Status.TheVariants.{Optimal, Budget, Infeasible, RefusedFile, RefusedLog}
use Rattle.steiner_top.specs.Outcome.{IsFound, IsWithoutTree}
use Rattle.steiner_top.specs.Output.{infeasible_line, refused_stp, refused_log, verdict_line, status_of_verdict}

-- the status with which an outcome ends a run
abbrev pub status_of_outcome : Outcome → Status
status_of_outcome (Found tree primal dual expanded searches log scale) = if dual == primal then Optimal else Budget
status_of_outcome (Directed tree primal dual expanded log scale) = if dual == primal then Optimal else Budget
status_of_outcome (NoTree log) = Infeasible

-- the text of an outcome of a file of this name, found by so many workers
abbrev pub IsOutcomeText : List ℕ → ℕ → Outcome → List ℕ → Type 0
IsOutcomeText file workers (Found tree primal dual expanded searches log scale) sent = IsSolutionText file workers tree dual primal scale sent
IsOutcomeText file workers (Directed tree primal dual expanded log scale) sent = IsSolutionTextIn true file workers tree dual primal scale sent
IsOutcomeText file workers (NoTree log) sent = sent ≡ infeasible_line

-- the text of a tree of the file's instance, with its cost and a bound
pub record IsSolution (w : SolveWords) (bytes : List ℕ) (tree : Tree) (primal dual expanded : ℕ) (searches : List Searched) (log : Log) (scale : Scale) (sent : List ℕ) : Type 0 where
  pub instance : Network
  pub reads : ReadsFile bytes (plain instance) scale
  pub found : IsFound w.nodes w.plain w.links instance tree primal dual expanded searches log
  pub text : IsSolutionText w.file w.workers tree dual primal scale sent

-- the text of a tree of the file's directed instance, with its cost and a bound
pub record IsDirectedSolution (w : SolveWords) (bytes : List ℕ) (tree : Tree) (primal dual expanded : ℕ) (log : Log) (scale : Scale) (sent : List ℕ) : Type 0 where
  pub instance : DiNetwork
  pub reads : ReadsFile bytes (directed instance) scale
  pub found : IsDiFound w.nodes instance tree primal dual expanded log
  pub text : IsSolutionTextIn true w.file w.workers tree dual primal scale sent

-- the file's problem has no tree
pub record IsInfeasible (bytes : List ℕ) (log : Log) (sent : List ℕ) : Type 0 where
  pub problem : Problem
  pub scale : Scale
  pub reads : ReadsFile bytes problem scale
  pub without_tree : IsWithoutTree problem log
  pub text : sent ≡ infeasible_line

-- the file is refused, at this line and for this reason
pub record IsRefusalBy (Refusing : ℕ → Reason → Type 0) (sent : List ℕ) : Type 0 where
  pub line : ℕ
  pub reason : Reason
  pub refused : Refusing line reason
  pub text : sent ≡ refused_stp line reason

-- as one of links
abbrev pub IsRefusal : List ℕ → List ℕ → Type 0
IsRefusal bytes sent = IsRefusalBy (Refused bytes) sent

-- as one of either kind
abbrev pub IsFileRefusal : List ℕ → List ℕ → Type 0
IsFileRefusal bytes sent = IsRefusalBy (FileRefused bytes) sent

-- how the bytes of a file are answered that is to be solved
abbrev pub SolveAnswer : SolveWords → List ℕ → Status → Option Outcome → List ℕ → Type 0
SolveAnswer w bytes Optimal (Some (Found tree primal dual expanded searches log scale)) sent = IsSolution w bytes tree primal dual expanded searches log scale sent × (dual ≡ primal)
SolveAnswer w bytes Budget (Some (Found tree primal dual expanded searches log scale)) sent = IsSolution w bytes tree primal dual expanded searches log scale sent × (dual < primal)
SolveAnswer w bytes Optimal (Some (Directed tree primal dual expanded log scale)) sent = IsDirectedSolution w bytes tree primal dual expanded log scale sent × (dual ≡ primal)
SolveAnswer w bytes Budget (Some (Directed tree primal dual expanded log scale)) sent = IsDirectedSolution w bytes tree primal dual expanded log scale sent × (dual < primal)
SolveAnswer w bytes Infeasible (Some (NoTree log)) sent = IsInfeasible bytes log sent
SolveAnswer w bytes RefusedFile None sent = IsFileRefusal bytes sent
SolveAnswer w bytes _ _ sent = ⊥

-- the status and the line of a check's answer
abbrev pub IsLineOf : Result Checked CheckFault → Status → List ℕ → Type 0
IsLineOf (Ok checked) status sent = (status ≡ status_of_verdict checked.verdict) × (sent ≡ verdict_line checked)
IsLineOf (Err (check.Stp f)) status sent = (status ≡ RefusedFile) × (sent ≡ refused_stp f.line f.reason)
IsLineOf (Err (check.Log f)) status sent = (status ≡ RefusedLog) × (sent ≡ refused_log f.line f.kind)
IsLineOf (Err check.NoMemory) status sent = ⊥

-- how the bytes of a file, undirected or directed, and of a log are answered that is to be checked: there is one such answer, and what it concludes is true of the file's trees
pub record CheckAnswer (stp log : List ℕ) (status : Status) (sent : List ℕ) : Type 0 where
  pub answer : Result Checked CheckFault
  pub exact : IsFileAnswer stp log answer
  pub only : (other : Result Checked CheckFault) → IsFileAnswer stp log other → other ≢ Err check.NoMemory → answer ≡ other
  pub concludes : (p : Problem) (scale : Scale) → ReadsFile stp p scale → IfOk answer (λ checked. ConcludesIn p checked.verdict)
  pub line : IsLineOf answer status sent

-- What going on from a log gives, how `resume` is answered, and how the texts decide that.
use Rattle.std.specs.Prelude.{◌≡◌, ◌↔◌, ◌⊎◌, ℕ, ◌^◌, ◌<◌, ◌≤◌, ◌==◌, if◌then◌else◌, List, length, Option, Some, None, Result, Ok, Err, IfSome}
use Rattle.std.specs.Io.KnownBytes.{append_known}
use Rattle.amounts.specs.declared.scale.Scale.{Scale}
use Rattle.st_model.specs.declared.tree.Tree.{Tree}
use Rattle.st_model.specs.Network.{Network}
use Rattle.st_model.specs.Arborescence.{IsTree, IsBound, cost}
use Rattle.stp_reader.specs.declared.reason.Reason.{Reason}
use Rattle.stp_reader.specs.Reads.{Reads, Refused}
use Rattle.log_format.specs.declared.kind.Kind.{Kind}
use Rattle.log_format.specs.declared.log.Log.{Log}
use Rattle.log_format.specs.declared.log.Claim.TheVariants as claim
use Rattle.log_format.specs.Accepts.{Accepts}
use Rattle.log_format.specs.Text.{IsLog, log_text}
use Rattle.search_core.specs.declared.gathered.Searched.{Searched}
use Rattle.dimacs_writer.specs.Solution.{IsSolutionText}
use Rattle.cert_checker.specs.declared.fault.CheckFault.{CheckFault}
use Rattle.cert_checker.specs.declared.verdict.Verdict.TheVariants as verdict
use Rattle.cert_checker.specs.Checking.{IsAnswer, IsFileAnswer, IsTextOf, IsWrongText}
use Rattle.resuming.specs.Resumed.{ClaimsTree, IsResumed, dual_of, expanded_by, primal_of}
use Rattle.command_line.specs.Words.{ResumeWords}
use Rattle.steiner_top.specs.declared.outcome.Outcome.{Outcome}
use Rattle.steiner_top.specs.declared.outcome.Outcome.TheVariants.{Found, Directed, NoTree}
use Rattle.steiner_top.specs.declared.status.Status.{Status}
use Rattle.steiner_top.specs.declared.status.Status.TheVariants.{Optimal, Budget, Infeasible, RefusedFile, RefusedLog, TooLong}
use Rattle.steiner_top.specs.Answer.{IsRefusal}
use Rattle.steiner_top.specs.Left.{IsClaimOf}
use Rattle.steiner_top.specs.Output.{infeasible_line, refused_log}

-- the file is read as this instance, and the bytes are the text of this log, which is accepted of it
pub record IsGoodLog (stp bytes : List ℕ) (I : Network) (scale : Scale) (log : Log) : Type 0 where
  pub reads : Reads stp I scale
  pub text : IsTextOf bytes log
  pub accepted : Accepts I log

-- a tree of this cost, a bound on the cost of every tree and their certificate, from a run that went on from a log that claims
-- a tree: it claims no dearer tree and no lower bound, and where cost and bound are apart the whole budget was spent
pub record IsContinued (nodes : ℕ) (I : Network) (old : Log) (tree : Tree) (primal dual expanded : ℕ) (searches : List Searched) (log : Log) : Type 0 where
  pub is_tree : IsTree I tree
  pub is_cost : primal ≡ cost I tree
  pub is_bound : IsBound I dual
  pub is_below : dual ≤ primal
  pub no_dearer : primal ≤ primal_of old
  pub no_lower : dual_of old ≤ dual
  -- the log claims this, and it has the proofs of these searches
  pub claims : IsClaimOf log.claim tree primal dual
  pub resumed : IsResumed nodes I old searches log
  -- how many units of the budget they took
  pub expanded_is : expanded ≡ expanded_by searches
  pub all_spent : dual < primal → expanded ≡ nodes
  pub is_log : IsLog log
  pub accepted : Accepts I log

-- the log claims that there is no tree, and it is its own certificate
pub record IsKept (I : Network) (old log : Log) : Type 0 where
  pub wall : List ℕ
  pub claims : old.claim ≡ claim.NoTree wall
  pub same : log ≡ old
  pub none : (t : Tree) → IsTree I t → ⊥

-- what is right of an instance and of a log that is accepted of it
abbrev pub IsResumption : ℕ → Network → Scale → Log → Outcome → Type 0
IsResumption nodes I unit old (Found tree primal dual expanded searches log scale) = ClaimsTree old.claim × IsContinued nodes I old tree primal dual expanded searches log × (scale ≡ unit)
IsResumption nodes I unit old (Directed tree primal dual expanded log scale) = ⊥
IsResumption nodes I unit old (NoTree log) = IsKept I old log

-- what the bytes of a file and of a log give: an outcome, or the fault that a check finds
abbrev pub Resumes : ℕ → List ℕ → List ℕ → Result Outcome CheckFault → Type 0
Resumes nodes stp bytes (Ok outcome) = (I : Network) × (scale : Scale) × (old : Log) × IsGoodLog stp bytes I scale old × IsResumption nodes I scale old outcome
Resumes nodes stp bytes (Err fault) = IsAnswer stp bytes (Err fault)

-- the text of the tree, with its cost and the bound
pub record IsContinuation (w : ResumeWords) (stp bytes : List ℕ) (tree : Tree) (primal dual expanded : ℕ) (searches : List Searched) (log : Log) (scale : Scale) (sent : List ℕ) : Type 0 where
  pub instance : Network
  pub old : Log
  pub good : IsGoodLog stp bytes instance scale old
  pub tree_claimed : ClaimsTree old.claim
  pub continued : IsContinued w.nodes instance old tree primal dual expanded searches log
  pub text : IsSolutionText w.file w.workers tree dual primal scale sent

-- the line that there is no tree, which the log shows
pub record IsKeptLog (stp bytes : List ℕ) (log : Log) (sent : List ℕ) : Type 0 where
  pub instance : Network
  pub scale : Scale
  pub old : Log
  pub good : IsGoodLog stp bytes instance scale old
  pub kept : IsKept instance old log
  pub text : sent ≡ infeasible_line

-- the log is refused, at this line and as this kind
pub record IsLogRefusal (stp bytes sent : List ℕ) : Type 0 where
  pub instance : Network
  pub scale : Scale
  pub line : ℕ
  pub kind : Kind
  pub reads : Reads stp instance scale
  pub wrong : IsWrongText instance bytes line kind
  pub text : sent ≡ refused_log line kind

-- how the bytes of a file and of a log are answered from which a run is to go on
abbrev pub ResumeAnswer : ResumeWords → List ℕ → List ℕ → Status → Option Outcome → List ℕ → Type 0
ResumeAnswer w stp bytes Optimal (Some (Found tree primal dual expanded searches log scale)) sent = IsContinuation w stp bytes tree primal dual expanded searches log scale sent × (dual ≡ primal)
ResumeAnswer w stp bytes Budget (Some (Found tree primal dual expanded searches log scale)) sent = IsContinuation w stp bytes tree primal dual expanded searches log scale sent × (dual < primal)
ResumeAnswer w stp bytes Infeasible (Some (NoTree log)) sent = IsKeptLog stp bytes log sent
ResumeAnswer w stp bytes RefusedFile None sent = IsRefusal stp sent
ResumeAnswer w stp bytes RefusedLog None sent = IsLogRefusal stp bytes sent
ResumeAnswer w stp bytes _ _ sent = ⊥

-- the text under each name, as far as it is known
abbrev Known : Type 0
Known = List ℕ → Option (List ℕ)

-- no text is too long
pub record AreLoadable (stp bytes : List ℕ) : Type 0 where
  pub file : length stp ≤ 2 ^ 34
  pub log : length bytes ≤ 2 ^ 34

-- the text of the tree was sent, and the certificate's stands under its name; a check accepts that with these numbers
pub record SendsContinuation (w : ResumeWords) (stp : List ℕ) (I : Network) (scale : Scale) (old : Log) (status : Status) (outcome : Option Outcome) (texts : Known) (taken now : Option (List ℕ)) : Type 0 where
  pub tree : Tree
  pub primal : ℕ
  pub dual : ℕ
  pub expanded : ℕ
  pub searches : List Searched
  pub certificate : Log
  pub sent : List ℕ
  pub given : outcome ≡ Some (Found tree primal dual expanded searches certificate scale)
  pub continued : IsContinued w.nodes I old tree primal dual expanded searches certificate
  pub text : IsSolutionText w.file w.workers tree dual primal scale sent
  pub took : now ≡ append_known taken sent
  pub ends : ((status ≡ Optimal) × (dual ≡ primal)) ⊎ ((status ≡ Budget) × (dual < primal))
  pub checks : IsFileAnswer stp (log_text certificate) (Ok (record { verdict = if dual == primal then verdict.Optimal primal else verdict.Bound dual primal; scale = scale }))
  pub log : IfSome w.save_name (λ name. IfSome (texts name) (λ text. text ≡ log_text certificate))

-- the line that there is no tree was sent, and the log stands under its new name as it was
pub record SendsKept (w : ResumeWords) (old : Log) (status : Status) (outcome : Option Outcome) (texts : Known) (taken now : Option (List ℕ)) : Type 0 where
  pub ends : status ≡ Infeasible
  pub given : outcome ≡ Some (NoTree old)
  pub took : now ≡ append_known taken infeasible_line
  pub log : IfSome w.save_name (λ name. IfSome (texts name) (λ text. text ≡ log_text old))

-- how a file and a log are answered from which a run is to go on, and whose texts are known
pub record ResumesLog (w : ResumeWords) (stp bytes : List ℕ) (status : Status) (outcome : Option Outcome) (texts : Known) (taken now : Option (List ℕ)) : Type 0 where
  pub too_long : (status ≡ TooLong) ↔ ((2 ^ 34 < length stp) ⊎ (2 ^ 34 < length bytes))
  pub refused_file : AreLoadable stp bytes → (status ≡ RefusedFile) ↔ ((line : ℕ) × (reason : Reason) × Refused stp line reason)
  pub refused_log : (I : Network) (scale : Scale) → Reads stp I scale → AreLoadable stp bytes → (status ≡ RefusedLog) ↔ ((line : ℕ) × (kind : Kind) × IsWrongText I bytes line kind)
  pub kept : (I : Network) (scale : Scale) (old : Log) (wall : List ℕ) → IsGoodLog stp bytes I scale old → old.claim ≡ claim.NoTree wall → AreLoadable stp bytes → SendsKept w old status outcome texts taken now
  pub continued : (I : Network) (scale : Scale) (old : Log) → IsGoodLog stp bytes I scale old → ClaimsTree old.claim → AreLoadable stp bytes → SendsContinuation w stp I scale old status outcome texts taken now

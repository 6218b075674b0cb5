-- What the command `verify` is answered with, and how the texts of its file and its solution decide that.
use Rattle.std.specs.Prelude.{◌≡◌, ◌≢◌, ◌⊎◌, ◌↔◌, ℕ, ◌^◌, ◌<◌, ◌≤◌, List, length, Option}
use Rattle.std.specs.Io.KnownBytes.{append_known}
use Rattle.amounts.specs.declared.scale.Scale.{Scale}
use Rattle.st_model.specs.Network.{Network}
use Rattle.stp_reader.specs.declared.reason.Reason.{Reason}
use Rattle.stp_reader.specs.Reads.{Reads, Refused}
use Rattle.solution_reader.specs.declared.reason.SolReason.{SolReason}
use Rattle.solution_reader.specs.declared.verify_fault.VerifyFault.{VerifyFault}
use Rattle.solution_reader.specs.declared.verify_fault.VerifyFault.TheVariants as verify_fault
use Rattle.solution_reader.specs.Claim.{Claim}
use Rattle.solution_reader.specs.Reads.{ReadsSolution, RefusedSolution as IsNoSolution}
use Rattle.solution_reader.specs.Stated.{IsStated, IsVerifyFault}
use Rattle.steiner_top.specs.declared.status.Status.{Status}
use Rattle.steiner_top.specs.declared.status.Status.TheVariants.{Optimal, RefusedFile, TooLong, NotTree, RefusedSolution}
use Rattle.steiner_top.specs.Answer.{IsRefusal}
use Rattle.steiner_top.specs.Output.{tree_line, not_tree_line, refused_solution}

-- the claim has this fault, which isn't want of memory
abbrev pub HasVerifyFault : Network → Scale → Claim → VerifyFault → Type 0
HasVerifyFault I scale claim f = IsVerifyFault I scale claim f × (f ≢ verify_fault.NoMemory)

-- the line of the claimed tree's cost, which is the only one
pub record IsTreeLine (I : Network) (scale : Scale) (claim : Claim) (sent : List ℕ) : Type 0 where
  pub cost : ℕ
  pub stated : IsStated I scale claim cost
  pub only : (c : ℕ) → IsStated I scale claim c → cost ≡ c
  pub right : (f : VerifyFault) → HasVerifyFault I scale claim f → ⊥
  pub text : sent ≡ tree_line cost scale

-- the line of what is wrong with the claim, which is the only such fault
pub record IsNotTreeLine (I : Network) (scale : Scale) (claim : Claim) (sent : List ℕ) : Type 0 where
  pub fault : VerifyFault
  pub has : HasVerifyFault I scale claim fault
  pub only : (other : VerifyFault) → HasVerifyFault I scale claim other → fault ≡ other
  pub wrong : (c : ℕ) → IsStated I scale claim c → ⊥
  pub text : sent ≡ not_tree_line fault

-- the line of why the bytes are no solution
pub record IsNoSolutionLine (solution sent : List ℕ) : Type 0 where
  pub line : ℕ
  pub reason : SolReason
  pub refused : IsNoSolution solution line reason
  pub text : sent ≡ refused_solution line reason

-- how a claim is answered
abbrev pub IsClaimLine : Network → Scale → Claim → Status → List ℕ → Type 0
IsClaimLine I scale claim Optimal sent = IsTreeLine I scale claim sent
IsClaimLine I scale claim NotTree sent = IsNotTreeLine I scale claim sent
IsClaimLine I scale claim _ sent = ⊥

-- so the claim of a solution is answered
pub record IsJudged (I : Network) (scale : Scale) (solution : List ℕ) (status : Status) (sent : List ℕ) : Type 0 where
  pub claim : Claim
  pub reads : ReadsSolution solution claim
  pub line : IsClaimLine I scale claim status sent

-- how the bytes of a solution are answered beside an instance: as refused, or as their claim
abbrev pub IsSolutionLine : Network → Scale → List ℕ → Status → List ℕ → Type 0
IsSolutionLine I scale solution RefusedSolution sent = IsNoSolutionLine solution sent
IsSolutionLine I scale solution status sent = IsJudged I scale solution status sent

-- so it is beside the instance of a file
pub record IsVerified (stp solution : List ℕ) (status : Status) (sent : List ℕ) : Type 0 where
  pub instance : Network
  pub scale : Scale
  pub reads : Reads stp instance scale
  pub line : IsSolutionLine instance scale solution status sent

-- how the bytes of a file and of a solution are answered: as a refused file, or beside their instance
abbrev pub VerifyAnswer : List ℕ → List ℕ → Status → List ℕ → Type 0
VerifyAnswer stp solution RefusedFile sent = IsRefusal stp sent
VerifyAnswer stp solution status sent = IsVerified stp solution status sent

-- both texts may be loaded whole
pub record AreShort (stp solution : List ℕ) : Type 0 where
  pub short_file : length stp ≤ 2 ^ 34
  pub short_solution : length solution ≤ 2 ^ 34

-- how a file and a solution are answered whose texts are known: the first thing that is wrong, or the tree's cost
pub record VerifiesSolution (stp solution : List ℕ) (status : Status) (taken now : Option (List ℕ)) : Type 0 where
  pub too_long : (status ≡ TooLong) ↔ ((2 ^ 34 < length stp) ⊎ (2 ^ 34 < length solution))
  pub refused_file : AreShort stp solution → (status ≡ RefusedFile) ↔ ((line : ℕ) × (reason : Reason) × Refused stp line reason)
  pub refused : (I : Network) (scale : Scale) → Reads stp I scale → AreShort stp solution → (status ≡ RefusedSolution) ↔ ((line : ℕ) × (reason : SolReason) × IsNoSolution solution line reason)
  pub why : (I : Network) (scale : Scale) (line : ℕ) (reason : SolReason) → Reads stp I scale → IsNoSolution solution line reason → AreShort stp solution → now ≡ append_known taken (refused_solution line reason)
  pub not_tree : (I : Network) (scale : Scale) (claim : Claim) → Reads stp I scale → ReadsSolution solution claim → AreShort stp solution → (status ≡ NotTree) ↔ ((f : VerifyFault) × HasVerifyFault I scale claim f)
  pub named : (I : Network) (scale : Scale) (claim : Claim) (f : VerifyFault) → Reads stp I scale → ReadsSolution solution claim → HasVerifyFault I scale claim f → AreShort stp solution → now ≡ append_known taken (not_tree_line f)
  pub verified : (I : Network) (scale : Scale) (claim : Claim) (c : ℕ) → Reads stp I scale → ReadsSolution solution claim → IsStated I scale claim c → AreShort stp solution → (status ≡ Optimal) × (now ≡ append_known taken (tree_line c scale))

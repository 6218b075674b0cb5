-- What the command `few` is answered with, and how the text of its file decides that.
use Rattle.std.specs.Prelude.{◌≡◌, ◌≢◌, ◌↔◌, ℕ, ◌^◌, ◌<◌, ◌≤◌, List, length, Option}
use Rattle.std.specs.Io.KnownBytes.{append_known}
use Rattle.amounts.specs.declared.scale.Scale.{Scale}
use Rattle.st_model.specs.declared.tree.Tree.{Tree}
use Rattle.st_model.specs.Network.{Network}
use Rattle.st_model.specs.Arborescence.{IsTree, IsBest, cost}
use Rattle.stp_reader.specs.declared.reason.Reason.{Reason}
use Rattle.stp_reader.specs.Reads.{Reads, Refused}
use Rattle.few_terminals.specs.declared.fault.FewFault.{FewFault}
use Rattle.few_terminals.specs.declared.fault.FewFault.TheVariants as few_fault
use Rattle.few_terminals.specs.Fault.{IsFewFault}
use Rattle.dimacs_writer.specs.Solution.{IsSolutionText}
use Rattle.command_line.specs.Words.{FewWords}
use Rattle.steiner_top.specs.declared.status.Status.{Status}
use Rattle.steiner_top.specs.declared.status.Status.TheVariants.{Optimal, Infeasible, RefusedFile, TooLong, NotFew}
use Rattle.steiner_top.specs.Answer.{IsRefusal}
use Rattle.steiner_top.specs.Output.{infeasible_line, not_few_line}

-- the instance has this fault, which isn't want of memory
abbrev pub HasFault : Network → FewFault → Type 0
HasFault I f = IsFewFault I f × (f ≢ few_fault.NoMemory)

-- it has none
abbrev pub HasNoFault : Network → Type 0
HasNoFault I = (f : FewFault) → HasFault I f → ⊥

-- the text of a best tree, whose cost is printed as its cost and as the bound
pub record IsBestText (w : FewWords) (I : Network) (scale : Scale) (sent : List ℕ) : Type 0 where
  pub few : HasNoFault I
  pub tree : Tree
  pub best : IsBest I tree
  pub text : IsSolutionText w.file 1 tree (cost I tree) (cost I tree) scale sent

-- the line that there is no tree
pub record HasNoBest (I : Network) (sent : List ℕ) : Type 0 where
  pub few : HasNoFault I
  pub none : (t : Tree) → IsTree I t → ⊥
  pub text : sent ≡ infeasible_line

-- the line of the instance's fault, which has no other
pub record IsNotFew (I : Network) (sent : List ℕ) : Type 0 where
  pub fault : FewFault
  pub has : HasFault I fault
  pub only : (other : FewFault) → HasFault I other → fault ≡ other
  pub text : sent ≡ not_few_line fault

-- how an instance is answered whose best tree is wanted
abbrev pub IsFoundText : FewWords → Network → Scale → Status → List ℕ → Type 0
IsFoundText w I scale Optimal sent = IsBestText w I scale sent
IsFoundText w I scale Infeasible sent = HasNoBest I sent
IsFoundText w I scale NotFew sent = IsNotFew I sent
IsFoundText w I scale _ sent = ⊥

-- so the instance of a file is answered
pub record IsFoundFile (w : FewWords) (bytes : List ℕ) (status : Status) (sent : List ℕ) : Type 0 where
  pub instance : Network
  pub scale : Scale
  pub reads : Reads bytes instance scale
  pub line : IsFoundText w instance scale status sent

-- how the bytes of a file are answered: as refused, or as their instance
abbrev pub FewAnswer : FewWords → List ℕ → Status → List ℕ → Type 0
FewAnswer w bytes RefusedFile sent = IsRefusal bytes sent
FewAnswer w bytes status sent = IsFoundFile w bytes status sent

-- a best tree of the instance was sent
pub record SendsBest (w : FewWords) (I : Network) (scale : Scale) (status : Status) (taken now : Option (List ℕ)) : Type 0 where
  pub ends : status ≡ Optimal
  pub tree : Tree
  pub best : IsBest I tree
  pub sent : List ℕ
  pub text : IsSolutionText w.file 1 tree (cost I tree) (cost I tree) scale sent
  pub took : now ≡ append_known taken sent

-- how a file is answered whose best tree is wanted, and whose text is known: a fault comes before the tree
pub record CountsFile (w : FewWords) (bytes : List ℕ) (status : Status) (taken now : Option (List ℕ)) : Type 0 where
  pub too_long : (status ≡ TooLong) ↔ (2 ^ 34 < length bytes)
  pub refused : length bytes ≤ 2 ^ 34 → (status ≡ RefusedFile) ↔ ((line : ℕ) × (reason : Reason) × Refused bytes line reason)
  pub not_few : (I : Network) (scale : Scale) → Reads bytes I scale → length bytes ≤ 2 ^ 34 → (status ≡ NotFew) ↔ ((f : FewFault) × HasFault I f)
  pub named : (I : Network) (scale : Scale) (f : FewFault) → Reads bytes I scale → length bytes ≤ 2 ^ 34 → HasFault I f → now ≡ append_known taken (not_few_line f)
  pub infeasible : (I : Network) (scale : Scale) → Reads bytes I scale → length bytes ≤ 2 ^ 34 → HasNoFault I → (status ≡ Infeasible) ↔ ((t : Tree) → IsTree I t → ⊥)
  pub solved : (I : Network) (scale : Scale) (t : Tree) → Reads bytes I scale → length bytes ≤ 2 ^ 34 → HasNoFault I → IsTree I t → SendsBest w I scale status taken now

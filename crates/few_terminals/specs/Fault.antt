-- What keeps an instance from having few terminals, and what stands for it in print.
use Rattle.std.specs.Prelude.{ℕ, ◌*◌, ◌^◌, ◌<◌, ◌≤◌, List, codes, ⊤}
use Rattle.st_model.specs.Network.{Network, IsVertex, pays}
use Rattle.st_model.specs.Terminals.{terminal_count, NobodyPays}
use Rattle.few_terminals.specs.declared.fault.FewFault.{FewFault}
use Rattle.few_terminals.specs.declared.fault.FewFault.TheVariants.{TooMany, Prizes, TooLarge, NoMemory}

-- some vertex pays where it is left out
abbrev pub SomebodyPays : Network → Type 0
SomebodyPays I = (v : ℕ) × IsVertex I.n v × (0 < pays I v)

-- the fault of the instance, if it has one: each case excludes those before it. Memory may always be short
abbrev pub IsFewFault : Network → FewFault → Type 0
IsFewFault I TooMany = 12 < terminal_count I
IsFewFault I Prizes = (terminal_count I ≤ 12) × SomebodyPays I
IsFewFault I TooLarge = (terminal_count I ≤ 12) × NobodyPays I × (67108864 < I.n * 2 ^ terminal_count I)
IsFewFault I NoMemory = ⊤

-- the instance has no fault
pub record IsFew (I : Network) : Type 0 where
  pub terminals : terminal_count I ≤ 12
  pub nobody : NobodyPays I
  pub cells : I.n * 2 ^ terminal_count I ≤ 67108864

abbrev pub code_of : FewFault → ℕ
code_of TooMany = 1
code_of Prizes = 2
code_of TooLarge = 3
code_of NoMemory = 4

abbrev pub name_of : FewFault → List ℕ
name_of TooMany = codes "TooMany"
name_of Prizes = codes "Prizes"
name_of TooLarge = codes "TooLarge"
name_of NoMemory = codes "NoMemory"

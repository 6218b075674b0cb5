-- The vertices that every tree has to reach, and networks in which no other vertex counts.
use Rattle.std.specs.Prelude.{◌≡◌, ℕ, IsTrue, if◌then◌else◌}
use Rattle.st_model.specs.Lists.{sum_to}
use Rattle.st_model.specs.Network.{Network, IsVertex, is_required, pays}

-- a vertex that has to be reached
pub record IsTerminal (I : Network) (v : ℕ) : Type 0 where
  pub vertex : IsVertex I.n v
  pub required : IsTrue (is_required I v)

-- how many vertices have to be reached
abbrev pub terminal_count : Network → ℕ
terminal_count I = sum_to (λ v. if is_required I v then 1 else 0) I.n

-- to leave a vertex out costs nothing
abbrev pub NobodyPays : Network → Type 0
NobodyPays I = (v : ℕ) → IsVertex I.n v → pays I v ≡ 0

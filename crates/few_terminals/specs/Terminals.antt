-- The vertices that have to be reached, one of them as the root. Helpers' clauses cite this, and no public one.
use Rattle.std.specs.Prelude.{◌≡◌, ℕ, ◌-◌, ◌<◌, ◌≤◌, ◌⊎◌, IsTrue, if◌then◌else◌, List, length}
use Rattle.st_model.specs.Lists.{has, sum_to}
use Rattle.st_model.specs.Network.{Network, IsVertex, is_required}
use Rattle.st_model.specs.Terminals.{IsTerminal}
use Rattle.st_model.specs.VertexSet.{AllApart}
use Rattle.few_terminals.specs.declared.choice.Terminals.{Terminals}

-- how many of the vertices up to v have to be reached
abbrev pub count_to : Network → ℕ → ℕ
count_to I v = sum_to (λ v. if is_required I v then 1 else 0) v

-- the terminals below a vertex, each once
pub record AreTerminalsBelow (I : Network) (list : List ℕ) (vertex : ℕ) : Type 0 where
  pub sound : (v : ℕ) → IsTrue (has list v) → IsTerminal I v × (v < vertex)
  pub complete : (v : ℕ) → IsTerminal I v → v < vertex → IsTrue (has list v)
  pub apart : AllApart list
  pub count : length list ≡ count_to I (vertex - 1)

-- a root and the other terminals; where nobody has to be reached the root is some vertex
pub record AreTerminals (I : Network) (t : Terminals) : Type 0 where
  pub vertex : IsVertex I.n t.root
  pub others : (v : ℕ) → IsTrue (has t.others.items v) → IsTerminal I v
  pub root : (v : ℕ) → IsTrue (has t.others.items v) → IsTerminal I t.root
  pub all : (v : ℕ) → IsTerminal I v → IsTrue (has t.others.items v) ⊎ (t.root ≡ v)
  pub apart : AllApart t.others.items
  pub few : length t.others.items ≤ 11

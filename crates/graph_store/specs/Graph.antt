-- A graph under change: a network, and which of its vertices are present.
use Rattle.std.specs.Prelude.{◌≡◌, ℕ, ◌-◌, Bool, false, ◌==◌, IsTrue, if◌then◌else◌, List, length, All, slice_index_or}
use Rattle.st_model.specs.Network.{Network, IsInstance}

pub record Graph : Type 0 where
  -- its links stand in a free order, which a removal may change
  pub network : Network
  -- whether vertex 1, 2, .. n is present
  pub present : List Bool

-- whether v is present, which no vertex out of range is
abbrev pub is_in : Graph → ℕ → Bool
is_in g v = if v == 0 then false else slice_index_or g.present (v - 1) false

-- what holds of every graph under change
pub record IsGraph (g : Graph) : Type 0 where
  pub instance : IsInstance g.network
  pub here : length g.present ≡ g.network.n
  pub ends : All (λ l. IsTrue (is_in g l.a) × IsTrue (is_in g l.b)) g.network.links

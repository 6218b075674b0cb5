-- Sets of vertices that keep required vertices apart.
use Rattle.std.specs.Prelude.{◌≡◌, ℕ, IsTrue, IsFalse, IsSome, List, All}
use Rattle.st_model.specs.Lists.{has}
use Rattle.st_model.specs.Network.{Network, IsVertex, link, is_required}

-- vertices in range that no link leaves, with a required vertex inside and one outside
pub record IsWall (I : Network) (wall : List ℕ) : Type 0 where
  pub in_range : All (IsVertex I.n) wall
  pub inside : (v : ℕ) × IsVertex I.n v × IsTrue (is_required I v) × IsTrue (has wall v)
  pub outside : (v : ℕ) × IsVertex I.n v × IsTrue (is_required I v) × IsFalse (has wall v)
  pub uncrossed : (u v : ℕ) → IsSome (link I.links u v) → has wall u ≡ has wall v

-- A tree that is laid out further. Helpers' clauses cite this, and no public one.
use Rattle.std.specs.Prelude.{ℕ, ◌+◌, ◌≤◌, IsTrue}
use Rattle.st_model.specs.Lists.{has}
use Rattle.st_model.specs.Network.{Network}
use Rattle.short_paths.specs.declared.laid.Laid.{Laid}
use Rattle.short_paths.specs.Laid.{IsLaid, spent}

-- the tree reaches v as well, and costs at most so much more
pub record GoesTo (I : Network) (old new : Laid) (v cost : ℕ) : Type 0 where
  pub laid : IsLaid I new
  pub keeps : (u : ℕ) → IsTrue (has old.reached.members u) → IsTrue (has new.reached.members u)
  pub there : IsTrue (has new.reached.members v)
  pub cheap : spent I new ≤ spent I old + cost

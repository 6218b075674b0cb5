-- Branches that say of vertices what another one says, and more.
use Rattle.std.specs.Prelude.{ℕ, Bool, IsTrue, ◌||◌, not, List}
use Rattle.st_model.specs.declared.branch.Branch.{Branch}
use Rattle.st_model.specs.Lists.{has}
use Rattle.st_model.specs.Network.{Network}
use Rattle.st_model.specs.Branch.{is_certain}

-- a branch in which everyone is inside who is so in R, and everyone outside: a tree that reaches what it says reaches what R says
pub record IsPartOf (R B : Branch) : Type 0 where
  pub inside : (v : ℕ) → IsTrue (has R.inside v) → IsTrue (has B.inside v)
  pub outside : (v : ℕ) → IsTrue (has R.outside v) → IsTrue (has B.outside v)

-- a vertex is to be avoided where it is so already, or is neither certain nor reached
abbrev pub is_left_out : Network → Branch → List ℕ → ℕ → Bool
is_left_out I B reached v = has B.outside v || not (is_certain I B v || has reached v)

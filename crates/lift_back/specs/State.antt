-- An instance under reduction: what is left of it, who is gone, and what is paid besides.
use Rattle.std.specs.Prelude.{◌≡◌, ℕ, ◌+◌, ◌^◌, ◌<◌, IsTrue, IsFalse, List, [], None}
use Rattle.st_model.specs.declared.need.Need.TheVariants.{Pays}
use Rattle.st_model.specs.declared.tree.Tree.{Tree}
use Rattle.st_model.specs.Lists.{has}
use Rattle.st_model.specs.Network.{Network, IsInstance, amount, link, need_of}
use Rattle.st_model.specs.Arborescence.{IsTree, cost, reached}
use Rattle.st_model.specs.Branch.{IsVertexSet}

pub record State : Type 0 where
  -- its links stand in a free order
  pub instance : Network
  -- the vertices that are gone, ascending
  pub gone : List ℕ
  -- what each tree of the first instance pays besides what is left
  pub offset : ℕ

-- an instance of which nobody is gone
abbrev pub whole : Network → State
whole I = record { instance = I; gone = []; offset = 0 }

-- what holds of every state: who is gone has no link and needs nothing
pub record IsState (s : State) : Type 0 where
  pub instance : IsInstance s.instance
  pub gone : IsVertexSet s.instance.n s.gone
  pub alone : (v w : ℕ) → IsTrue (has s.gone v) → link s.instance.links v w ≡ None
  pub idle : (v : ℕ) → IsTrue (has s.gone v) → need_of s.instance v ≡ Pays 0
  pub amount : amount s.instance + s.offset < 2 ^ 63

-- a tree of what is left that reaches nobody who is gone
pub record IsTreeOf (s : State) (t : Tree) : Type 0 where
  pub tree : IsTree s.instance t
  pub avoids : (v : ℕ) → IsTrue (has s.gone v) → IsFalse (has (reached t) v)

-- what the tree costs in what is left, and what is paid besides
abbrev pub worth : State → Tree → ℕ
worth s t = cost s.instance t + s.offset

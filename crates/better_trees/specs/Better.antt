-- Trees that are cheaper than the least cost known.
use Rattle.std.specs.Prelude.{◌≡◌, ℕ, ◌<◌, Option, Some, None}
use Rattle.st_model.specs.declared.branch.Branch.{Branch}
use Rattle.st_model.specs.declared.tree.Tree.{Tree}
use Rattle.st_model.specs.Network.{Network}
use Rattle.st_model.specs.Arborescence.{IsTree, cost}
use Rattle.st_model.specs.Branch.{ReachesAsTold}
use Rattle.better_trees.specs.declared.place.Place.{Place}
use Rattle.better_trees.specs.declared.price.Priced.{Priced}

-- a tree that reaches what the branch says and costs this, which is less than the least cost known
pub record IsBetter (I : Network) (B : Branch) (least : ℕ) (p : Priced) : Type 0 where
  pub is_tree : IsTree I p.tree
  pub reaches : ReachesAsTold B p.tree
  pub is_price : p.price ≡ cost I p.tree
  pub cheaper : p.price < least

-- a tree that reaches what the branch says at which trees are looked for
abbrev pub IsTreeAt : Place → Tree → Type 0
IsTreeAt p t = IsTree p.whole.now.instance t × ReachesAsTold p.branch.now t

-- a better one
abbrev pub IsBetterAt : Place → ℕ → Priced → Type 0
IsBetterAt p least found = IsBetter p.whole.now.instance p.branch.now least found

-- the least cost known once the better tree is, if there is one
abbrev pub least_after : ℕ → Option Priced → ℕ
least_after least None = least
least_after least (Some p) = p.price

-- the second of two better trees, or else the first
abbrev pub later : Option Priced → Option Priced → Option Priced
later better None = better
later better (Some p) = Some p

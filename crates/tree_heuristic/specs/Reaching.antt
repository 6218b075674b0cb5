-- What a tree reaches in a graph under change.
use Rattle.std.specs.Prelude.{◌≡◌, ℕ, ◌≤◌, [], IsTrue}
use Rattle.st_model.specs.declared.branch.Branch.{Branch}
use Rattle.st_model.specs.declared.tree.Tree.{Tree}
use Rattle.st_model.specs.Arborescence.{IsTree, cost, reached}
use Rattle.st_model.specs.Branch.{ReachesAsTold}
use Rattle.st_model.specs.Lists.{has}
use Rattle.graph_store.specs.Graph.{Graph, is_in}

-- the tree reaches no vertex that isn't present
abbrev pub ReachesPresent : Graph → Tree → Type 0
ReachesPresent g t = (v : ℕ) → IsTrue (has (reached t) v) → IsTrue (is_in g v)

-- a tree that reaches what the branch says, and present vertices alone
pub record IsTreeOf (g : Graph) (B : Branch) (t : Tree) : Type 0 where
  pub tree : IsTree g.network t
  pub reaches : ReachesAsTold B t
  pub present : ReachesPresent g t

-- there is no such tree
abbrev pub HasNoTree : Graph → Branch → Type 0
HasNoTree g B = (t : Tree) → IsTree g.network t → ReachesAsTold B t → ReachesPresent g t → ⊥

-- the tree costs no more than each tree of one present vertex that reaches what the branch says
abbrev pub IsNoDearerThanOne : Graph → Branch → Tree → Type 0
IsNoDearerThanOne g B t = (s : Tree) → s.arcs ≡ [] → ReachesAsTold B s → ReachesPresent g s → cost g.network t ≤ cost g.network s

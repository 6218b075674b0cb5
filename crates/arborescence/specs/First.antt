-- Branches of a directed instance that have no tree.
use Rattle.st_model.specs.declared.branch.Branch.{Branch}
use Rattle.st_model.specs.declared.tree.Tree.{Tree}
use Rattle.st_model.specs.Arborescence.{IsTreeIn}
use Rattle.st_model.specs.Branch.{Belongs}
use Rattle.st_model.specs.Ground.{Ground}

-- no tree is one of the branch
abbrev pub HasNoTreeIn : Ground → Branch → Type 0
HasNoTreeIn G B = (t : Tree) → IsTreeIn G t → Belongs B t → ⊥

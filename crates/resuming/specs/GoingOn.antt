-- Searches that go on from the closes of a proof.
use Rattle.std.specs.Prelude.{◌≡◌, ℕ, ◌-◌, ◌⊎◌, List, [], ◌∷◌, All, Contains, Option, Some, None}
use Rattle.st_model.specs.declared.tree.Tree.{Tree}
use Rattle.st_model.specs.Arborescence.{IsTree, cost}
use Rattle.st_model.specs.Branch.{ReachesAsTold}
use Rattle.st_model.specs.Network.{Network}
use Rattle.branching.specs.declared.node.Node.{Node}
use Rattle.log_format.specs.Text.{IsWritablePacking}
use Rattle.search_core.specs.declared.gathered.Searched.{Searched}
use Rattle.search_core.specs.Complete.{AllPackings, IsAtVertex, IsComplete, IsFinished, records}
use Rattle.log_resume.specs.Closes.{IsNextBelow}

-- a search that went on from a close, with this start and this budget; it split at vertices alone, and a log can hold its
-- packings
pub record IsSearchFrom (I : Network) (N : Node) (start budget : ℕ) (E : Searched) : Type 0 where
  pub close_is : E.close ≡ N.id
  pub start_is : E.start ≡ start
  pub budget_is : E.budget ≡ budget
  pub complete : IsComplete E.gathered I N.branch start budget
  pub finished : IsFinished E.gathered I N.branch start budget
  pub writable : AllPackings IsWritablePacking E.gathered
  pub sites : All IsAtVertex (records E.gathered)

-- searches of the closes that are light at their turn, where first this value is the least known and this budget is left:
-- each begins with the least value of the one before it, and with what that left of the budget; the last value is the least
-- in the end
pub data GoOn (I : Network) : List Node → ℕ → ℕ → List Searched → ℕ → Type 0 where
  ended : {closes : List Node} {least budget : ℕ} → IsNextBelow I least closes None → GoOn I closes least budget [] least
  searched : {closes rest : List Node} {N : Node} {least budget last : ℕ} {E : Searched} {more : List Searched}
      → IsNextBelow I least closes (Some (N, rest)) → IsSearchFrom I N least budget E
      → GoOn I rest E.gathered.least (budget - E.gathered.claimed) more last → GoOn I closes least budget (E ∷ more) last

-- where a tree comes from: it was known, or it reaches what the branch of one of the closes says
abbrev pub ComesFrom : Option Tree → List Node → Tree → Type 0
ComesFrom known closes t = (known ≡ Some t) ⊎ ((N : Node) × Contains closes N × ReachesAsTold N.branch t)

-- a tree of this cost that comes from there
pub record IsKnown (I : Network) (known : Option Tree) (closes : List Node) (least : ℕ) (t : Tree) : Type 0 where
  pub tree : IsTree I t
  pub cost_is : cost I t ≡ least
  pub comes : ComesFrom known closes t

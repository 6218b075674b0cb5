-- Sets round a vertex that the root reaches only over arcs that something remains of, and how many arcs enter them.
use Rattle.std.specs.Prelude.{◌≡◌, ℕ, ◌≤◌, IsTrue, IsFalse, if◌then◌else◌, List, Some}
use Rattle.st_model.specs.Branch.{IsVertexSet}
use Rattle.st_model.specs.Lists.{has, total, sum_to}
use Rattle.bidirected_form.specs.Digraph.{Digraph, arcs_into, remaining}
use Rattle.bidirected_form.specs.Entering.{enters}

-- nothing remains of the arc from u to v
abbrev pub IsSaturated : Digraph → ℕ → ℕ → Type 0
IsSaturated D u v = remaining D u v ≡ Some 0

-- what leads to q over arcs that nothing remains of
pub data LeadsTo (D : Digraph) (q : ℕ) : ℕ → Type 0 where
  here : LeadsTo D q q
  over : {u v : ℕ} → IsSaturated D u v → LeadsTo D q v → LeadsTo D q u

-- the sum of f over the arcs that enter a set
abbrev pub entering_sum : Digraph → (ℕ → ℕ → ℕ) → List ℕ → ℕ
entering_sum D f set = sum_to (λ v. total (λ a. if enters set a.tail v then f a.tail v else 0) (arcs_into D v)) D.n

-- how many arcs enter a set
abbrev pub entering_count : Digraph → List ℕ → ℕ
entering_count D set = entering_sum D (λ u v. 1) set

-- the set holds q and not the root, and of each arc that enters it something remains
pub record Separates (D : Digraph) (q : ℕ) (set : List ℕ) : Type 0 where
  pub holds : IsTrue (has set q)
  pub misses : IsFalse (has set D.root)
  pub remains : (u v : ℕ) → IsTrue (enters set u v) → IsSaturated D u v → ⊥

-- a set of vertices that separates q from the root
pub record IsCandidate (D : Digraph) (q : ℕ) (members : List ℕ) : Type 0 where
  pub set : IsVertexSet D.n members
  pub separates : Separates D q members

-- a candidate, and none is entered by fewer arcs
pub record IsFewest (D : Digraph) (q : ℕ) (set : List ℕ) : Type 0 where
  pub candidate : IsCandidate D q set
  pub least : (other : List ℕ) → IsCandidate D q other → entering_count D set ≤ entering_count D other

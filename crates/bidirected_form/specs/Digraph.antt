-- A root, what each vertex is, and arcs with what remains of each.
use Rattle.std.specs.Prelude.{◌≡◌, ◌≢◌, ℕ, ◌+◌, ◌<◌, ◌≤◌, ◌==◌, if◌then◌else◌, List, [], ◌∷◌, length, map, All, AllPairs, slice_index_or, Option, Some, None}
use Rattle.std.specs.Option.{is_some}
use Rattle.st_model.specs.Network.{IsVertex}
use Rattle.bidirected_form.specs.declared.arc.Arc.{Arc}
use Rattle.bidirected_form.specs.declared.kind.VertexKind.{VertexKind}
use Rattle.bidirected_form.specs.declared.kind.VertexKind.TheVariants.{Outside}

pub record Digraph : Type 0 where
  pub root : ℕ
  pub n : ℕ
  -- what vertex 0, 1, .. n is; 0 stands for none, and is outside
  pub kinds : List VertexKind
  -- the arcs into vertex 0, 1, .. n
  pub arcs : List (List Arc)

-- what v is, which is outside where v is out of range
abbrev pub kind_of : Digraph → ℕ → VertexKind
kind_of D v = slice_index_or D.kinds v Outside

-- the arcs into v
abbrev pub arcs_into : Digraph → ℕ → List Arc
arcs_into D v = slice_index_or D.arcs v []

-- the vertices from which there is an arc to v
abbrev pub neighbours : Digraph → ℕ → List ℕ
neighbours D v = map (λ a. a.tail) (arcs_into D v)

-- what remains of the arc from u among these
abbrev pub left_from : List Arc → ℕ → Option ℕ
left_from [] u = None
left_from (a ∷ arcs) u = if a.tail == u then Some a.remaining else left_from arcs u

-- what remains of the arc from u to v, if there is one
abbrev pub remaining : Digraph → ℕ → ℕ → Option ℕ
remaining D u v = left_from (arcs_into D v) u

-- the tails ascend, and are vertices other than v
pub record AreArcsInto (n v : ℕ) (arcs : List Arc) : Type 0 where
  pub ascending : AllPairs (λ a b. a.tail < b.tail) arcs
  pub tails : All (λ a. IsVertex n a.tail × (a.tail ≢ v)) arcs

-- what holds of every root with kinds and arcs
pub record IsDigraph (D : Digraph) : Type 0 where
  pub few_vertices : D.n ≤ 1000000
  pub root : IsVertex D.n D.root
  pub kinds : length D.kinds ≡ D.n + 1
  pub rows : length D.arcs ≡ D.n + 1
  pub arcs : (v : ℕ) → AreArcsInto D.n v (arcs_into D v)
  -- each arc has one in the other direction
  pub both : (u v : ℕ) → is_some (remaining D u v) ≡ is_some (remaining D v u)
  -- 0 is no vertex
  pub nobody : kind_of D 0 ≡ Outside
  -- an outside vertex has no arcs
  pub outside : (u v : ℕ) → kind_of D v ≡ Outside → remaining D u v ≡ None

-- A directed network: vertices 1 to n, a root, arcs that lead from one vertex to another at a cost, and terminals.
use Rattle.std.specs.Prelude.{ℕ, ◌^◌, ◌<◌, ◌≤◌, Bool, ◌&&◌, ◌||◌, ◌==◌, IsFalse, if◌then◌else◌, List, [], ◌∷◌, All, AllPairs, Option, Some, None}
use Rattle.st_model.specs.declared.link.Link.{Link}
use Rattle.st_model.specs.Lists.{has, total}
use Rattle.st_model.specs.Network.{IsVertex}
use Rattle.st_model.specs.Branch.{IsVertexSet}
use Rattle.st_model.specs.Ground.{Ground}

pub record DiNetwork : Type 0 where
  pub n : ℕ
  pub root : ℕ
  -- ordered pairs of different vertices, each with its cost, in a free order: a link stands for the arc from a to b
  pub arcs : List Link
  -- the vertices that have to be reached from the root, ascending; the root may be one of them
  pub terminals : List ℕ

-- the arc leads from u to v
abbrev pub leads : Link → ℕ → ℕ → Bool
leads l u v = (l.a == u) && (l.b == v)

-- the cost of the arc from u to v, if there is one
abbrev pub arc_from : List Link → ℕ → ℕ → Option ℕ
arc_from [] u v = None
arc_from (l ∷ ls) u v = if leads l u v then Some l.cost else arc_from ls u v

-- the same, but that no arc leads to the root: no tree from the root has one
abbrev pub away_price : DiNetwork → ℕ → ℕ → Option ℕ
away_price D u v = if v == D.root then None else arc_from D.arcs u v

-- whether v has to be reached: a terminal, and the root, which is reached from the start
abbrev pub is_sought : DiNetwork → ℕ → Bool
is_sought D v = (v == D.root) || has D.terminals v

-- what trees, packings and walls are judged over: nobody pays, and the root is the only one
abbrev pub di_ground : DiNetwork → Ground
di_ground D = record { n = D.n; price = away_price D; required = is_sought D; pays = λ _. 0; root = Some D.root }

-- an arc between different vertices
pub record IsArcBetween (n : ℕ) (l : Link) : Type 0 where
  pub tail : IsVertex n l.a
  pub head : IsVertex n l.b
  pub apart : IsFalse (l.a == l.b)

-- what holds of every directed instance
pub record IsDiNetwork (D : DiNetwork) : Type 0 where
  pub few_vertices : D.n ≤ 1000000
  pub root : IsVertex D.n D.root
  pub ends : All (IsArcBetween D.n) D.arcs
  pub one_each : AllPairs (λ l m. IsFalse (leads m l.a l.b)) D.arcs
  pub terminals : IsVertexSet D.n D.terminals
  pub amount : total (λ l. l.cost) D.arcs < 2 ^ 63

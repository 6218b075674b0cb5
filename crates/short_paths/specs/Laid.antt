-- A tree that is laid out along links.
use Rattle.std.specs.Prelude.{◌≡◌, ℕ, ◌+◌, [], ◌∷◌}
use Rattle.st_model.specs.Arborescence.{Grows, arc_cost, reached_from}
use Rattle.st_model.specs.Lists.{has, total}
use Rattle.st_model.specs.Network.{Network, IsVertex}
use Rattle.short_paths.specs.declared.laid.Laid.{Laid}

-- arcs that grow from the start, and the vertices that they reach
pub record IsLaid (I : Network) (l : Laid) : Type 0 where
  pub start : IsVertex I.n l.start
  pub grows : Grows I (l.start ∷ []) l.arcs.items
  pub same : (v : ℕ) → has l.reached.members v ≡ has (reached_from (l.start ∷ []) l.arcs.items) v
  pub count : l.reached.count ≡ I.n + 1

-- what its arcs cost
abbrev pub spent : Network → Laid → ℕ
spent I l = total (arc_cost I) l.arcs.items

-- What leads to a vertex over arcs that bear just what they cost. Helpers' clauses cite this, and no public one.
use Rattle.std.specs.Prelude.{ℕ, ◌==◌, if◌then◌else◌, List, [], ◌∷◌, map}
use Rattle.cut_packing.specs.declared.arcs.LoadedArc.{LoadedArc}

-- the tails of the arcs that bear just what they cost
abbrev pub used_tails : List LoadedArc → List ℕ
used_tails [] = []
used_tails (arc ∷ arcs) = if arc.load == arc.cost then arc.tail ∷ used_tails arcs else used_tails arcs

-- the same of the arcs into each vertex
abbrev pub used_into : List (List LoadedArc) → List (List ℕ)
used_into arcs = map used_tails arcs

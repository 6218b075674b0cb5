-- What nodes weigh at least. Helpers' clauses cite this, and no public one.
use Rattle.std.specs.Prelude.{ℕ, min, List, [], ◌∷◌}
use Rattle.st_model.specs.Network.{Network}
use Rattle.cut_packing.specs.Packing.{weight}
use Rattle.branching.specs.declared.node.Node.{Node}

-- the least of a number and of what the packings of some nodes weigh
abbrev pub lowest_weight : Network → ℕ → List Node → ℕ
lowest_weight I top [] = top
lowest_weight I top (N ∷ Ns) = lowest_weight I (min top (weight I N.branch N.packing)) Ns

-- Packings of which some cuts are freed.
use Rattle.std.specs.Prelude.{Bool, if◌then◌else◌, List, [], ◌∷◌}
use Rattle.cut_packing.specs.declared.cut.Cut.{Cut}
use Rattle.cut_packing.specs.declared.packing.Packing.{Packing}

-- the cuts at whose places no mark is set; there may be fewer marks than cuts
abbrev pub kept : List Bool → List Cut → List Cut
kept freed [] = []
kept [] (c ∷ cuts) = c ∷ cuts
kept (is_freed ∷ freed) (c ∷ cuts) = if is_freed then kept freed cuts else c ∷ kept freed cuts

-- the packing of these cuts, for the same root
abbrev pub without_freed : Packing → List Bool → Packing
without_freed P freed = record { root = P.root; cuts = kept freed P.cuts }

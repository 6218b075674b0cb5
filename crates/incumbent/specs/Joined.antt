-- What a place knows that took in seats, the first one first.
use Rattle.std.specs.Prelude.{◌+◌, min, List, [], ◌∷◌, ◌++◌}
use Rattle.incumbent.specs.declared.rule.Hand.{Hand}
use Rattle.incumbent.specs.Rule.{hand}
use Rattle.incumbent.specs.Seat.{Known}

abbrev pub joined : Hand → List Known → Hand
joined v [] = v
joined v (s ∷ ss) = joined (hand (v.parts + 1) v.start (v.offers ++ s.offers) (min v.lowest s.lowest)) ss

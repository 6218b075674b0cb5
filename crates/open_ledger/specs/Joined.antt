-- What a place knows that took in seats, the first one first.
use Rattle.std.specs.Prelude.{List, [], ◌∷◌}
use Rattle.open_ledger.specs.declared.rule.Tally.{Tally}
use Rattle.open_ledger.specs.Tally.{both}
use Rattle.open_ledger.specs.Seat.{Known}

abbrev pub joined : Tally → List Known → Tally
joined v [] = v
joined v (s ∷ ss) = joined (both v s.tally) ss

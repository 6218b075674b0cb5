-- What a seat at an incumbent knows, as its callers see it.
use Rattle.std.specs.Prelude.{ℕ, List, [], ◌∷◌, ◌++◌}
use Rattle.atomic_table.specs.Seated.{TableId}
use Rattle.incumbent.specs.declared.rule.Hand.{Hand}

-- which incumbent it is of, the value that this began with, the offers made on the seat, the first one first, and the
-- least value that it has seen or offered (the start, where there is none)
pub record Known : Type 0 where
  pub incumbent : TableId
  pub start : ℕ
  pub offers : List ℕ
  pub lowest : ℕ

-- a seat that has neither seen nor offered a value
abbrev pub fresh : TableId → ℕ → Known
fresh incumbent start = record { incumbent = incumbent; start = start; offers = []; lowest = start }

-- the seat after it has seen a value
abbrev pub having_seen : Known → ℕ → Known
having_seen s value = record { incumbent = s.incumbent; start = s.start; offers = s.offers; lowest = value }

-- the seat after an offer, with the value that the word had then
abbrev pub having_offered : Known → ℕ → ℕ → Known
having_offered s offer value = record { incumbent = s.incumbent; start = s.start; offers = s.offers ++ offer ∷ []; lowest = value }

abbrev pub known_as : TableId → Hand → Known
known_as incumbent v = record { incumbent = incumbent; start = v.start; offers = v.offers; lowest = v.lowest }

-- the offers of all seats
abbrev pub all_offers : List Known → List ℕ
all_offers [] = []
all_offers (s ∷ ss) = s.offers ++ all_offers ss

-- an incumbent: which it is, the value that it began with, and how many seats it gave
pub record Board : Type 0 where
  pub incumbent : TableId
  pub start : ℕ
  pub seats : ℕ

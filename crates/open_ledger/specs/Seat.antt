-- What a seat at a ledger knows, as its callers see it.
use Rattle.std.specs.Prelude.{◌≢◌, ℕ, ◌<◌, List, Contains, Option, None}
use Rattle.std.specs.List.{sum_by}
use Rattle.atomic_table.specs.Seated.{TableId}
use Rattle.open_ledger.specs.declared.rule.Tally.{Tally}
use Rattle.open_ledger.specs.Tally.{newcomer}
use Rattle.open_ledger.specs.declared.why.Why.{Why}

-- which ledger it is of, what was done on it, and why it halted, if it did
pub record Known : Type 0 where
  pub ledger : TableId
  pub tally : Tally
  pub why : Option Why

-- a seat on which this was done now, and which halted no more than before
abbrev pub counting : Known → Tally → Known
counting s done = record { ledger = s.ledger; tally = done; why = s.why }

-- a seat on which nothing was done
abbrev pub fresh : TableId → ℕ → Known
fresh ledger budget = record { ledger = ledger; tally = newcomer budget; why = None }

-- what the seats did, added up
abbrev pub ups_of : List Known → ℕ
ups_of = sum_by (λ (s : Known). s.tally.ups)

abbrev pub downs_of : List Known → ℕ
downs_of = sum_by (λ (s : Known). s.tally.downs)

abbrev pub granted_of : List Known → ℕ
granted_of = sum_by (λ (s : Known). s.tally.granted)

abbrev pub refused_of : List Known → ℕ
refused_of = sum_by (λ (s : Known). s.tally.refused)

abbrev pub halts_of : List Known → ℕ
halts_of = sum_by (λ (s : Known). s.tally.halts)

abbrev pub sights_of : List Known → ℕ
sights_of = sum_by (λ (s : Known). s.tally.sights)

-- a seat that halted says why
abbrev pub SaysWhy : Known → Type 0
SaysWhy s = 0 < s.tally.halts → s.why ≢ None

-- some seat of these halted, and says why
abbrev pub SomeSaysWhy : List Known → Type 0
SomeSaysWhy ss = (s : Known) × Contains ss s × (s.why ≢ None)

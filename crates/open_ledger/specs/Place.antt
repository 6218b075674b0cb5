-- A seat with any number of parts: which ledger it is of, and what was done on it.
use Rattle.atomic_table.specs.Seated.{TableId}
use Rattle.open_ledger.specs.declared.rule.Tally.{Tally}

pub record Place : Type 0 where
  pub ledger : TableId
  pub tally : Tally

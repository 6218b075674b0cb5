-- A seat with any number of parts: which incumbent it is of, and what it knows.
use Rattle.atomic_table.specs.Seated.{TableId}
use Rattle.incumbent.specs.declared.rule.Hand.{Hand}

pub record Place : Type 0 where
  pub incumbent : TableId
  pub hand : Hand

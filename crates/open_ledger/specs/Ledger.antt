-- A ledger, and the seat that it keeps for itself.
use Rattle.std.specs.Prelude.{◌≡◌, ℕ, ◌+◌}
use Rattle.atomic_table.specs.Seated.{TableId}
use Rattle.open_ledger.specs.declared.rule.Tally.{Tally}

-- which it is, its budget, and how many seats it gave
pub record Ledger : Type 0 where
  pub ledger : TableId
  pub budget : ℕ
  pub seats : ℕ

-- The seat has the parts that the others lack, and nothing was done on it.
pub record IsUntouched (v : Tally) (its_budget seats : ℕ) : Type 0 where
  pub parts_left : v.parts + seats ≡ 65
  pub budget_is : v.budget ≡ its_budget
  pub ups_none : v.ups ≡ 0
  pub downs_none : v.downs ≡ 0
  pub idle : v.busy ≡ 0
  pub granted_none : v.granted ≡ 0
  pub refused_none : v.refused ≡ 0
  pub halts_none : v.halts ≡ 0
  pub sights_none : v.sights ≡ 0

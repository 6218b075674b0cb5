-- What was done on a seat, in counts.
use Rattle.std.specs.Prelude.{ℕ, ◌+◌, ◌-◌}
use Rattle.open_ledger.specs.declared.rule.Tally.{Tally}

-- a budget; parts; ups, downs and busy; claims granted and refused; halts and sights of a halt
abbrev pub tally : ℕ → ℕ → ℕ → ℕ → ℕ → ℕ → ℕ → ℕ → ℕ → Tally
tally budget parts ups downs busy granted refused halts sights = record {
  budget = budget;
  parts = parts;
  ups = ups;
  downs = downs;
  busy = busy;
  granted = granted;
  refused = refused;
  halts = halts;
  sights = sights;
}

-- the first seat has every part: one for each of 64 seats, and its own
abbrev pub first_tally : ℕ → Tally
first_tally budget = tally budget 65 0 0 1 0 0 0 0

-- a seat on which nothing was done
abbrev pub newcomer : ℕ → Tally
newcomer budget = tally budget 1 0 0 1 0 0 0 0

-- what is left of a seat that gave a part to another, which is busy for both
abbrev pub cut_from : Tally → Tally
cut_from v = tally v.budget (v.parts - 1) v.ups v.downs 0 v.granted v.refused v.halts v.sights

abbrev pub both : Tally → Tally → Tally
both v w = tally v.budget (v.parts + w.parts) (v.ups + w.ups) (v.downs + w.downs) (v.busy + w.busy) (v.granted + w.granted)
    (v.refused + w.refused) (v.halts + w.halts) (v.sights + w.sights)

-- what is left of a seat that another took in
abbrev pub spent : Tally
spent = tally 0 0 0 0 0 0 0 0 0

abbrev pub with_up : Tally → Tally
with_up v = tally v.budget v.parts (v.ups + 1) v.downs 1 v.granted v.refused v.halts v.sights

abbrev pub with_down : Tally → Tally
with_down v = tally v.budget v.parts v.ups (v.downs + 1) 1 v.granted v.refused v.halts v.sights

abbrev pub with_busy : Tally → ℕ → Tally
with_busy v busy = tally v.budget v.parts v.ups v.downs busy v.granted v.refused v.halts v.sights

abbrev pub with_grant : Tally → Tally
with_grant v = tally v.budget v.parts v.ups v.downs v.busy (v.granted + 1) v.refused v.halts v.sights

abbrev pub with_refusal : Tally → Tally
with_refusal v = tally v.budget v.parts v.ups v.downs v.busy v.granted (v.refused + 1) v.halts v.sights

abbrev pub with_halt : Tally → Tally
with_halt v = tally v.budget v.parts v.ups v.downs v.busy v.granted v.refused (v.halts + 1) v.sights

abbrev pub with_sights : Tally → ℕ → Tally
with_sights v more = tally v.budget v.parts v.ups v.downs v.busy v.granted v.refused v.halts (v.sights + more)

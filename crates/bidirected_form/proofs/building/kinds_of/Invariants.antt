use Rattle.std.proofs.Common.{◌≡◌, ℕ, ◌+◌, ◌≤◌, length, get_or}
use Rattle.bidirected_form.specs.declared.kind.VertexKind.TheVariants.{Outside}
use Rattle.bidirected_form.specs.Bidirected.{kind_in}
use Rattle.bidirected_form.proofs.building.kinds_of.Given as goal

abbrev pub invariant-loop-before : goal.invariant-loop-before
invariant-loop-before l = record { count : length l.kinds.items ≡ l.before + 1; kinds : (v : ℕ) → v ≤ l.before → get_or l.kinds.items v Outside ≡ kind_in l.store l.branch v }

use Rattle.std.proofs.Common.{◌≡◌, ℕ, ◌+◌, ◌≤◌, length, get_or, filter}
use Rattle.std.specs.Prelude.{nat_lt}
use Rattle.st_model.specs.Lists.{up_to}
use Rattle.prize_transform.specs.Twins.{numbered_from, prize_in}
use Rattle.prize_transform.proofs.twins.Twins.of.Given as goal

abbrev pub invariant-loop-before : goal.invariant-loop-before
invariant-loop-before l = record {
  ends : l.ends.items ≡ numbered_from (l.arcs.n + 1) (filter (λ v. nat_lt 0 (prize_in l.arcs v)) (up_to l.before));
  count : length l.left.items ≡ l.before + 1;
  left : (v : ℕ) → v ≤ l.before → get_or l.left.items v 0 ≡ prize_in l.arcs v;
}

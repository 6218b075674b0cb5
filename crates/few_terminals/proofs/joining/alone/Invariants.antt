use Rattle.std.proofs.Common.{◌≡◌, ℕ, ◌^◌, ◌<◌}
use Rattle.few_terminals.proofs.joining.alone.Given as goal

abbrev pub invariant-loop-terminal : goal.invariant-loop-terminal
invariant-loop-terminal l = (l.bit ≡ 2 ^ l.terminal-index) × ((i : ℕ) → i < l.terminal-index → 2 ^ i ≡ l.bits → ⊥)

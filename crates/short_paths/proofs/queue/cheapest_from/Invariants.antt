use Rattle.std.proofs.Common.{ℕ, ◌<◌, ◌≤◌, length}
use Rattle.short_paths.specs.Waiting.{cost_at}
use Rattle.short_paths.proofs.queue.cheapest_from.Given as goal

abbrev pub invariant-loop-place : goal.invariant-loop-place
invariant-loop-place l = record {
  within : (l.first ≤ l.best) × (l.best < length l.offers);
  cheapest : (other : ℕ) → l.first ≤ other → other < l.place → cost_at l.offers l.best ≤ cost_at l.offers other;
}

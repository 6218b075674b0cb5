use Rattle.std.proofs.Common.{ℕ, ◌<◌, subst, sym}
use Rattle.std.specs.Prelude.{All}
use Rattle.few_terminals.proofs.joining.joined.Goals as goal

pub join_parts-requires-clause-range : goal.join_parts-requires-clause-range
join_parts-requires-clause-range c = subst (λ (long : ℕ). All (λ v. v < long) c.args.reached.now) (sym c.in_ok-marks.ensures.long) c.requires.range

pub returns : goal.returns
returns c I es same rows = c.join_parts.ensures I c.args.terminals.now es rows (c.in_ok-marks.ensures.begun I es same)
